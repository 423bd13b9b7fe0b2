-- The truth lines from one position to the next, and that a verdict rests on the positions up to its own.
use Rattle.std.proofs.Common.{◌≡◌, ℕ, zero, suc, ◌≤◌, Bool, true, false, not, ◌&&◌, ◌||◌, ltb, refl, ap, ◌∙◌, arith, rules}
use Rattle.std.proofs.lemmas.Bool.{lt-ltb, le-ltb}
use Rattle.formula.specs.Formulas.{Formula, atom, truth, negation, conjunction, disjunction, previously, since, always, sometime}
use Rattle.truth.specs.Truth.{Trace, labelled, all_to, some_to, implies, holds}

all_to_same : (i : ℕ) (P Q : ℕ → Bool) → ((j : ℕ) → j ≤ i → P j ≡ Q j) → all_to i P ≡ all_to i Q
all_to_same zero P Q h = h zero (omega arith)
all_to_same (suc i) P Q h = λ k. all_to_same i P Q (λ j le. h j (omega arith)) k && h (suc i) (omega arith) k

some_to_same : (i : ℕ) (P Q : ℕ → Bool) → ((j : ℕ) → j ≤ i → P j ≡ Q j) → some_to i P ≡ some_to i Q
some_to_same zero P Q h = h zero (omega arith)
some_to_same (suc i) P Q h = λ k. some_to_same i P Q (λ j le. h j (omega arith)) k || h (suc i) (omega arith) k

-- a verdict rests on the positions up to its own
pub holds_local : (f : Formula) (σ τ : Trace) (i : ℕ) → ((j : ℕ) → j ≤ i → σ j ≡ τ j) → holds f σ i ≡ holds f τ i
unfolding holds
holds_local (atom p) σ τ i h = ap (λ m. labelled m p) (h i (omega arith))
holds_local truth σ τ i h = refl
holds_local (negation a) σ τ i h = ap not (holds_local a σ τ i h)
holds_local (conjunction a b) σ τ i h = λ k. holds_local a σ τ i h k && holds_local b σ τ i h k
holds_local (disjunction a b) σ τ i h = λ k. holds_local a σ τ i h k || holds_local b σ τ i h k
holds_local (previously a) σ τ zero h = refl
holds_local (previously a) σ τ (suc i) h = holds_local a σ τ i (λ j le. h j (omega arith))
holds_local (since a b) σ τ i h =
    some_to_same i (λ j. holds b σ j && all_to i (λ m. implies (ltb j m) (holds a σ m))) (λ j. holds b τ j && all_to i (λ m. implies (ltb j m) (holds a τ m)))
    (λ j le. λ k. holds_local b σ τ j (λ n in'. h n (omega arith)) k && all_to_same i (λ m. implies (ltb j m) (holds a σ m)) (λ m. implies (ltb j m) (holds a τ m)) (λ m le'. ap (implies (ltb j m)) (holds_local a σ τ m (λ n in'. h n (omega arith)))) k)
holds_local (always a) σ τ i h = all_to_same i (λ j. holds a σ j) (λ j. holds a τ j) (λ j le. holds_local a σ τ j (λ n in'. h n (omega arith)))
holds_local (sometime a) σ τ i h = some_to_same i (λ j. holds a σ j) (λ j. holds a τ j) (λ j le. holds_local a σ τ j (λ n in'. h n (omega arith)))

-- at position 0 and at the next one

pub previous_first : (a : Formula) (τ : Trace) → holds (previously a) τ zero ≡ false
unfolding holds
previous_first a τ = refl

pub previous_next : (a : Formula) (τ : Trace) (i : ℕ) → holds (previously a) τ (suc i) ≡ holds a τ i
unfolding holds
previous_next a τ i = refl

pub always_first : (a : Formula) (τ : Trace) → holds (always a) τ zero ≡ holds a τ zero
unfolding holds
always_first a τ = refl

pub always_next : (a : Formula) (τ : Trace) (i : ℕ) → holds (always a) τ (suc i) ≡ (holds (always a) τ i && holds a τ (suc i))
unfolding holds
always_next a τ i = refl

pub sometime_first : (a : Formula) (τ : Trace) → holds (sometime a) τ zero ≡ holds a τ zero
unfolding holds
sometime_first a τ = refl

pub sometime_next : (a : Formula) (τ : Trace) (i : ℕ) → holds (sometime a) τ (suc i) ≡ (holds (sometime a) τ i || holds a τ (suc i))
unfolding holds
sometime_next a τ i = refl

and_true : (b : Bool) → (b && true) ≡ b
and_true true = refl
and_true false = refl

pub since_first : (a b : Formula) (τ : Trace) → holds (since a b) τ zero ≡ holds b τ zero
unfolding holds
since_first a b τ = and_true (holds b τ zero)

-- the left side, told for one position more
and_shift : (x y z : Bool) → (x && (y && z)) ≡ (z && (x && y))
and_shift true true true = refl
and_shift true true false = refl
and_shift true false true = refl
and_shift true false false = refl
and_shift false y true = refl
and_shift false y false = refl

or_and : (z x y : Bool) → ((z && x) || (z && y)) ≡ (z && (x || y))
or_and true x y = refl
or_and false x y = refl

-- some position up to i, where each candidate has one more demand z
some_to_and : (i : ℕ) (z : Bool) (P : ℕ → Bool) → some_to i (λ j. z && P j) ≡ (z && some_to i P)
some_to_and zero z P = refl
some_to_and (suc i) z P = ap (λ x. x || (z && P (suc i))) (some_to_and i z P) ∙ or_and z (some_to i P) (P (suc i))

past_true : (i n : ℕ) (a : Formula) (τ : Trace) → i ≤ n → all_to i (λ m. implies (ltb n m) (holds a τ m)) ≡ true
past_true zero n a τ le = search rules
past_true (suc i) n a τ le = λ k. past_true i n a τ (omega arith) k && ap (λ b. implies b (holds a τ (suc i))) (le-ltb n (suc i) le) k

pub since_next : (a b : Formula) (τ : Trace) (i : ℕ) → holds (since a b) τ (suc i) ≡ ((holds a τ (suc i) && holds (since a b) τ i) || holds b τ (suc i))
unfolding holds
since_next a b τ i =
    let earlier = some_to_same i (λ j. holds b τ j && (all_to i (λ m. implies (ltb j m) (holds a τ m)) && implies (ltb j (suc i)) (holds a τ (suc i)))) (λ j. holds a τ (suc i) && (holds b τ j && all_to i (λ m. implies (ltb j m) (holds a τ m))))
    (λ j le. ap (λ t. holds b τ j && (all_to i (λ m. implies (ltb j m) (holds a τ m)) && implies t (holds a τ (suc i)))) (lt-ltb j (suc i) (omega arith)) ∙ and_shift (holds b τ j) (all_to i (λ m. implies (ltb j m) (holds a τ m))) (holds a τ (suc i))) in
    let here : (holds b τ (suc i) && all_to (suc i) (λ m. implies (ltb (suc i) m) (holds a τ m))) ≡ holds b τ (suc i) =
    ap (λ t. holds b τ (suc i) && t) (past_true (suc i) (suc i) a τ (omega arith)) ∙ and_true (holds b τ (suc i)) in
    λ k. (earlier ∙ some_to_and i (holds a τ (suc i)) (λ j. holds b τ j && all_to i (λ m. implies (ltb j m) (holds a τ m)))) k || here k
