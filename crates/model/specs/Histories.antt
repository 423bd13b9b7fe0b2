-- A history is the list of the ground states from the start on, each next one a target of an action that is offered after those before.
-- What a history shows, earns and may choose is given beside the ground model, since layers add to the first two and may narrow the third.
-- A model *unfolds* a ground model where each history leads to just one of its states, which shows and offers what the history does,
-- with outcomes in the ground's order, and their weights.
use Rattle.std.specs.Prelude.{◌≡◌, ℕ, ◌-◌, Bool, IsTrue, List, [], ◌∷◌, ◌++◌, map, length, ℤ, slice_index}
use Rattle.std.specs.List.{Contains}
use Rattle.model.specs.declared.Outcome.{Outcome}
use Rattle.model.specs.Models.{Model}

-- the state that a history ends in
abbrev pub final : List ℕ → ℕ
final h = slice_index h (length h - 1)

abbrev pub targets_of : List Outcome → List ℕ
targets_of os = map (λ o. o.target) os

-- what is known after a history: the label mask, the reward, and whether an action is offered
pub record Shown : Type 0 where
  pub mask : List ℕ → ℕ
  pub reward : List ℕ → ℤ
  pub offered : List ℕ → ℕ → Bool

-- of a model by itself: what its last state shows and offers
abbrev pub by_itself : Model → Shown
by_itself m =
    record {
      mask = λ h. m.mask (final h);
      reward = λ h. m.reward (final h);
      offered = λ h a. m.offered (final h) a;
    }

pub data History (g : Model) (offered : List ℕ → ℕ → Bool) : List ℕ → Type 0 where
  begun : History g offered (g.start ∷ [])
  onward : {h : List ℕ} (a t : ℕ) → History g offered h → IsTrue (offered h a)
      → Contains (targets_of (g.outcomes (final h) a)) t → History g offered (h ++ (t ∷ []))

-- a path of a model: a history by its own offers
abbrev pub Path : Model → List ℕ → Type 0
Path m p = History m (by_itself m).offered p

-- where an outcome leads, as a longer history
abbrev pub along : (List ℕ → ℕ) → List ℕ → Outcome → Outcome
along code h o = record { target = code (h ++ (o.target ∷ [])); weight = o.weight }

-- m unfolds the ground model g with what is shown: code says at which state of m a history stands
pub record Unfolds (g : Model) (sh : Shown) (m : Model) (code : List ℕ → ℕ) : Type 0 where
  pub first : code (g.start ∷ []) ≡ m.start
  pub states : (h : List ℕ) → History g sh.offered h → IsTrue (m.state (code h))
  pub sites : (h : List ℕ) → History g sh.offered h → m.site (code h) ≡ final h
  pub masks : (h : List ℕ) → History g sh.offered h → m.mask (code h) ≡ sh.mask h
  pub rewards : (h : List ℕ) → History g sh.offered h → m.reward (code h) ≡ sh.reward h
  pub offers : (h : List ℕ) → History g sh.offered h → (a : ℕ)
      → m.offered (code h) a ≡ sh.offered h a
  pub moves : (h : List ℕ) → History g sh.offered h → (a : ℕ) → IsTrue (sh.offered h a)
      → m.outcomes (code h) a ≡ map (along code h) (g.outcomes (final h) a)

-- the ground states along a path
abbrev pub grounds : Model → List ℕ → List ℕ
grounds m p = map m.site p

-- there is one path of m over each history of g, and only one, and every path of m stands over one
pub record OnePathAbove (g : Model) (sh : Shown) (m : Model) : Type 0 where
  pub one : (h : List ℕ) → History g sh.offered h → (p : List ℕ) × (Path m p × (grounds m p ≡ h))
  pub only : (p q : List ℕ) → Path m p → Path m q → grounds m p ≡ grounds m q → p ≡ q
  pub below : (p : List ℕ) → Path m p → History g sh.offered (grounds m p)
