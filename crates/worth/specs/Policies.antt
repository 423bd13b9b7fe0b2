-- A policy chooses from the whole history. What it earns is said over histories of the ground model, with the rewards that the
-- record gives, and not over states of another model.
use Rattle.std.specs.Prelude.{◌≡◌, ℕ, zero, suc, ◌-◌, ◌≤◌, IsTrue, List, [], ◌∷◌, ◌++◌, length, ℤ, ◌+ℤ◌, ◌≤ℤ◌}
use Rattle.std.specs.List.{Contains}
use Rattle.model.specs.Histories.{final, targets_of, Shown}
use Rattle.model.specs.Models.{Model}
use Rattle.weighmodel.specs.Weighings.{Weigh, held}
use Rattle.worth.specs.Worths.{joined, own_part, choice_of}

-- an action for each history
abbrev pub Policy : Type 0
Policy = List ℕ → ℕ

-- the histories that a policy's own actions lead to
pub data LedTo (g : Model) (π : Policy) : List ℕ → Type 0 where
  led_start : LedTo g π (g.start ∷ [])
  led_on : {h : List ℕ} (t : ℕ) → LedTo g π h
      → Contains (targets_of (g.outcomes (final h) (π h))) t → LedTo g π (h ++ (t ∷ []))

-- a policy names an offered action at each history of up to so many states that its own actions lead to
abbrev pub Admissible : Model → Shown → ℕ → Policy → Type 0
Admissible g sh horizon π =
    (h : List ℕ) → LedTo g π h → length h ≤ horizon → IsTrue (sh.offered h (π h))

-- the value of a history that goes on to a state
abbrev pub value_after : List ℕ → (List ℕ → ℤ) → ℕ → ℤ
value_after h value t = value (h ++ (t ∷ []))

-- what a policy earns after a history with k slots left
unfoldable pub earned_after : Weigh → (ℕ → ℕ) → Model → (List ℕ → ℤ) → ℕ → Policy → ℕ → List ℕ → ℤ
earned_after w discount g reward horizon π zero h = own_part w discount horizon 0 (reward h)
earned_after w discount g reward horizon π (suc k) h =
    held (own_part w discount horizon (suc k) (reward h)
    +ℤ joined w (value_after h (earned_after w discount g reward horizon π k))
    (g.outcomes (final h) (π h)))

-- what it earns in all
abbrev pub earns : Weigh → (ℕ → ℕ) → Model → Shown → ℕ → Policy → ℤ
earns w discount g sh horizon π =
    earned_after w discount g sh.reward horizon π horizon (g.start ∷ [])

-- a policy earns exactly so much, and no policy that chooses from the whole history earns more
pub record Best (w : Weigh) (discount : ℕ → ℕ) (g : Model) (sh : Shown)
    (horizon : ℕ) (π : Policy) (worth : ℤ) : Type 0 where
  pub admissible : Admissible g sh horizon π
  pub exactly : earns w discount g sh horizon π ≡ worth
  pub nobody : (ρ : Policy) → Admissible g sh horizon ρ → earns w discount g sh horizon ρ ≤ℤ worth

-- the plan on a model as a policy: it goes to the state that the history stands at, and takes its choice for the slots left
abbrev pub planned : Weigh → (ℕ → ℕ) → Model → (List ℕ → ℕ) → ℕ → Policy
planned w discount m code horizon h =
    choice_of w discount m horizon (horizon - length h) (code h)
