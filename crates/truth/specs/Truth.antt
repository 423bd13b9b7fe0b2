-- When a formula holds at a position of a record, as it is told to a person (docs/FORMATS.md, "Truth of a formula"). A record shows a label
-- mask at each position, counted from 0. `holds` is the verdict as a Boolean, with bounded quantifiers; `IsTrueAt` is the plain reading,
-- "there is" and "for all". Nothing here remembers anything from one position to the next.
use Rattle.std.specs.Prelude.{◌≡◌, ℕ, zero, suc, ◌/◌, ◌%◌, ◌^◌, ◌<◌, ◌≤◌, ◌↔◌, Bool, true, false, ⊤, IsTrue, not, ◌&&◌, ◌||◌, ◌⊎◌, nat_lt}
pub use Rattle.model.specs.Masks.{labelled}
use Rattle.formula.specs.Formulas.{Formula, atom, truth, negation, conjunction, disjunction, previously, since, always, sometime}

-- the label mask at each position
abbrev pub Trace : Type 0
Trace = ℕ → ℕ

-- at every position up to i
abbrev pub all_to : ℕ → (ℕ → Bool) → Bool
all_to zero P = P zero
all_to (suc i) P = all_to i P && P (suc i)

-- at some position up to i
abbrev pub some_to : ℕ → (ℕ → Bool) → Bool
some_to zero P = P zero
some_to (suc i) P = some_to i P || P (suc i)

abbrev pub implies : Bool → Bool → Bool
implies a b = not a || b

-- one position back; not at position 0
abbrev pub before : ℕ → (ℕ → Bool) → Bool
before zero P = false
before (suc i) P = P i

-- the truth lines
unfoldable pub holds : Formula → Trace → ℕ → Bool
holds (atom p) τ i = labelled (τ i) p
holds truth τ i = true
holds (negation a) τ i = not (holds a τ i)
holds (conjunction a b) τ i = holds a τ i && holds b τ i
holds (disjunction a b) τ i = holds a τ i || holds b τ i
holds (previously a) τ i = before i (λ j. holds a τ j)
holds (since a b) τ i =
    some_to i (λ j. holds b τ j && all_to i (λ m. implies (nat_lt j m) (holds a τ m)))
holds (always a) τ i = all_to i (λ j. holds a τ j)
holds (sometime a) τ i = some_to i (λ j. holds a τ j)

-- the same, in words: previous only past position 0; since: the right side at some j up to now, the left side at every later
-- position; always and once over all positions up to now
abbrev pub IsTrueAt : Formula → Trace → ℕ → Type 0
IsTrueAt (atom p) τ i = τ i / 2 ^ p % 2 ≡ 1
IsTrueAt truth τ i = ⊤
IsTrueAt (negation a) τ i = ¬ IsTrueAt a τ i
IsTrueAt (conjunction a b) τ i = IsTrueAt a τ i × IsTrueAt b τ i
IsTrueAt (disjunction a b) τ i = IsTrueAt a τ i ⊎ IsTrueAt b τ i
IsTrueAt (previously a) τ i = (j : ℕ) × ((suc j ≡ i) × IsTrueAt a τ j)
IsTrueAt (since a b) τ i =
    (j : ℕ) × ((j ≤ i) × (IsTrueAt b τ j × ((m : ℕ) → j < m → m ≤ i → IsTrueAt a τ m)))
IsTrueAt (always a) τ i = (j : ℕ) → j ≤ i → IsTrueAt a τ j
IsTrueAt (sometime a) τ i = (j : ℕ) × ((j ≤ i) × IsTrueAt a τ j)

-- the Boolean form is the plain one
abbrev pub PlainTruth : Type 0
PlainTruth = (f : Formula) (τ : Trace) (i : ℕ) → IsTrue (holds f τ i) ↔ IsTrueAt f τ i
