-- An order of tests, as rows: whether a test is passed, and what is refused where it is not. The first row that is not passed decides.
use Rattle.std.specs.Prelude.{◌≡◌, ℕ, ◌<◌, Bool, false, IsTrue, if◌then◌else◌, List, [], ◌∷◌, Some, None, Option, Ok, Err, Result}
use Rattle.std.specs.List.{slice_get}
use Rattle.refusal.specs.declared.Refusal.{Refusal}

abbrev pub Row : Type 0
Row = Bool × Refusal

abbrev pub first_failing : List Row → Option Refusal
first_failing [] = None
first_failing (row ∷ rows) = if row.0 then first_failing rows else Some row.1

-- a value where nothing is refused
abbrev pub unless : {V : Type 0} → Option Refusal → V → Result V Refusal
unless None v = Ok v
unless (Some r) v = Err r

-- row k is not passed, and those before it are
pub record FailsFirst (rows : List Row) (r : Refusal) (k : ℕ) : Type 0 where
  pub row : slice_get rows k ≡ Some (false, r)
  pub before : (j : ℕ) (row : Row) → j < k → slice_get rows j ≡ Some row → IsTrue row.0

-- what rows decide, with no recursion: a row is the first that is not passed, or all are passed
abbrev pub Decided : List Row → Option Refusal → Type 0
Decided rows (Some r) = (k : ℕ) × FailsFirst rows r k
Decided rows None = (k : ℕ) (row : Row) → slice_get rows k ≡ Some row → IsTrue row.0
