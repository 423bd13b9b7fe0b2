-- What a search finds, in words that do not speak of searching: the states that some path of the
-- model ends in.
use Rattle.std.specs.Prelude.{◌≡◌, ℕ, ◌<◌, ◌≤◌, ⊤, List, [], ◌∷◌, ◌++◌, length, Ok, Err, Result}
use Rattle.std.specs.List.{Contains}
use Rattle.model.specs.Histories.{Path, final}
use Rattle.model.specs.Models.{Model}
use Rattle.refusal.specs.declared.Refusal.{Refusal}
use Rattle.refusal.specs.declared.Refusal.TheVariants.{TooManyStates}
use Rattle.register.specs.Keys.{Distinct, Kept}
use Rattle.reach.specs.Search.{leads_to, codes_of}

-- a path of the model leads to c
abbrev pub Reached : Model → ℕ → Type 0
Reached m c = (p : List ℕ) × (Path m p × (final p ≡ c))

-- what the listed states lead to, one state after another
abbrev pub coming_up : Model → List ℕ → List ℕ
coming_up m [] = []
coming_up m (c ∷ cs) = leads_to m c ++ coming_up m cs

-- the codes are exactly the reached states, each once, in the order of the search: the start, and
-- then what the listed states in turn lead to, each code where it first comes
pub record ListsReached (m : Model) (codes : List ℕ) : Type 0 where
  pub once : Distinct codes
  pub only : (c : ℕ) → Contains codes c → Reached m c
  pub every : (c : ℕ) → Reached m c → Contains codes c
  pub order : Kept (m.start ∷ coming_up m codes) codes

-- more than n states are reached
pub record MoreThan (m : Model) (n : ℕ) : Type 0 where
  pub codes : List ℕ
  pub once : Distinct codes
  pub many : n < length codes
  pub only : (c : ℕ) → Contains codes c → Reached m c

-- the answer of a search into a table of so many places: the codes, or there are more
abbrev pub Searched : Model → ℕ → List ℕ → Result ⊤ Refusal → Type 0
Searched m room codes (Ok _) = (codes ≡ codes_of m) × ((length codes ≤ room) × ListsReached m codes)
Searched m room codes (Err r) = (r ≡ TooManyStates) × (room < length (codes_of m)) × MoreThan m room
