-- Where the values of the targets are small enough, joining them with nothing held gives the same. For others: `Frees`, that a
-- weighing holds nothing back, `mean_frees` and `worst_frees`.
use Rattle.std.proofs.Common.{◌≡◌, ℕ, zero, suc, ◌+◌, ◌*◌, ◌^◌, ◌≤◌, min, List, [], ◌∷◌, length, ℤ, pos, ◌+ℤ◌, ◌*ℤ◌, nat_abs, refl, ap, ◌∙◌, le_trans, le_refl, mul_assoc, add-mul, mul-le-mul, mul-le-mul_left, mul-suc, arith, lit≤}
use native.Mathlib.Nat.{pow-succ', pow-le-pow_right, min-eq_left}
use Rattle.std.specs.Int.{int_min}
use Rattle.std.specs.List.{Contains}
use Rattle.std.proofs.lemmas.List.Sums.{sum_by-cons}
use Rattle.model.specs.declared.Outcome.{Outcome}
use Rattle.model.specs.Histories.{targets_of}
use Rattle.model.specs.Models.{total}
use Rattle.weighmodel.specs.Weighings.{Weigh, held, most, mean, worst, free_mean, free_worst}
use Rattle.worth.specs.Worths.{joined_from, joined}
use Rattle.worth.proofs.Joining.{has_first, has_later}
use Rattle.worth.proofs.Sizes.{abs_sum, abs_times, abs_min, abs_first, held_small}

-- the values of the targets are the same, and of size at most b
abbrev pub Same : (ℕ → ℤ) → (ℕ → ℤ) → ℕ → List Outcome → Type 0
Same values others b os = (t : ℕ) → Contains (targets_of os) t → (values t ≡ others t) × (nat_abs (others t) ≤ b)

-- nothing is held back where the values with k slots left are of size at most `size k`
pub record Frees (w free : Weigh) (size : ℕ → ℕ) : Type 0 where
  pub units : w.unit ≡ free.unit
  pub begin : 512000 ≤ size 0
  pub small : (k : ℕ) → k ≤ 12 → size k ≤ 2 ^ 59
  pub joins : (k : ℕ) → suc k ≤ 12 → (values others : ℕ → ℤ) (os : List Outcome) → 1 ≤ length os → total os ≡ 8 → Same values others (size k) os
      → (joined w values os ≡ joined free others os) × (nat_abs (joined free others os) + free.unit ^ suc k * 512000 ≤ size (suc k))

rest_same : (values others : ℕ → ℤ) (b : ℕ) (o : Outcome) (os : List Outcome) → Same values others b (o ∷ os) → Same values others b os
rest_same values others b o os each = λ t has. each t (has_later o.target (targets_of os) t has)

first_same : (values others : ℕ → ℤ) (b : ℕ) (o : Outcome) (os : List Outcome) → Same values others b (o ∷ os) → (values o.target ≡ others o.target) × (nat_abs (others o.target) ≤ b)
first_same values others b o os each = each o.target (has_first o.target (targets_of os))

-- under mean

mean_step : (x v u : ℤ) (k b : ℕ) → v ≡ u → nat_abs u ≤ b → b ≤ 2 ^ 59 → k ≤ 8 → nat_abs x + k * b ≤ 2 ^ 59 → (mean.join x k v ≡ free_mean.join x k u) × (nat_abs (free_mean.join x k u) ≤ nat_abs x + k * b)
mean_step x v u k b same size fits few room =
    let part : k * nat_abs u ≤ k * b = mul-le-mul_left k size in
    let sum : nat_abs (x +ℤ (pos k *ℤ u)) ≤ nat_abs x + k * b = omega (arith, abs_sum x (pos k *ℤ u), abs_times k u) in
    let before : held x ≡ x = held_small x (omega arith) in
    let value : held v ≡ u = ap held same ∙ held_small u (omega arith) in
    let weight : min k 8 ≡ k = min-eq_left few in (
      (λ i. held (before i +ℤ (pos (weight i) *ℤ value i))) ∙ held_small (x +ℤ (pos k *ℤ u)) (omega arith),
      sum,
    )

mean_joined : (values others : ℕ → ℤ) (b : ℕ) → b ≤ 2 ^ 59 → (os : List Outcome) (x : ℤ) → total os ≤ 8 → nat_abs x + total os * b ≤ 2 ^ 59 → Same values others b os
    → (joined_from mean values x os ≡ joined_from free_mean others x os) × (nat_abs (joined_from free_mean others x os) ≤ nat_abs x + total os * b)
mean_joined values others b fits [] x few room each = (refl, omega arith)
mean_joined values others b fits (o ∷ os) x few room each =
    let here = first_same values others b o os each in
    let sum : total (o ∷ os) ≡ o.weight + total os = sum_by-cons (λ (o : Outcome). o.weight) o os in
    let parts : total (o ∷ os) * b ≡ o.weight * b + total os * b = ap (λ n. n * b) sum ∙ add-mul o.weight (total os) b in
    let step = mean_step x (values o.target) (others o.target) o.weight b here.0 here.1 fits (omega arith) (omega arith) in
    let rest = mean_joined values others b fits os (free_mean.join x o.weight (others o.target)) (omega arith) (omega (arith, step.1)) (rest_same values others b o os each) in
    (ap (λ y. joined_from mean values y os) step.0 ∙ rest.0, omega (arith, step.1, rest.1))

-- the largest size of a worth with k slots left under mean
pub mean_size : ℕ → ℕ
mean_size k = 8 ^ k * (k + 1) * 512000

mean_fits : (k : ℕ) → k ≤ 12 → mean_size k ≤ 2 ^ 59
unfolding mean_size
mean_fits k h =
    let count : k + 1 ≤ 13 = omega arith in
    let power : 8 ^ k ≤ 8 ^ 12 = pow-le-pow_right (lit≤ tt) h in
    le_trans (mul-le-mul (mul-le-mul power count) (le_refl 512000)) (lit≤ tt)

mean_grows : (k : ℕ) → 8 * mean_size k + 8 ^ suc k * 512000 ≡ mean_size (suc k)
unfolding mean_size
mean_grows k =
    let power : 8 ^ suc k ≡ 8 * 8 ^ k = pow-succ' 8 k in
    let more : 8 ^ suc k * (suc k + 1) ≡ 8 ^ suc k * (k + 1) + 8 ^ suc k = ap (λ n. 8 ^ suc k * n) (omega arith) ∙ mul-suc (8 ^ suc k) (k + 1) in
    let apart : 8 ^ suc k * (k + 1) ≡ 8 * (8 ^ k * (k + 1)) = ap (λ p. p * (k + 1)) power ∙ mul_assoc 8 (8 ^ k) (k + 1) in
    omega (arith, more, apart)

mean_joins : (k : ℕ) → suc k ≤ 12 → (values others : ℕ → ℤ) (os : List Outcome) → 1 ≤ length os → total os ≡ 8 → Same values others (mean_size k) os
    → (joined mean values os ≡ joined free_mean others os) × (nat_abs (joined free_mean others os) + 8 ^ suc k * 512000 ≤ mean_size (suc k))
mean_joins k short values others os some whole each =
    let grows = mean_grows k in
    let fits = mean_fits (suc k) short in
    let eight : total os * mean_size k ≡ 8 * mean_size k = ap (λ n. n * mean_size k) whole in
    let told = mean_joined values others (mean_size k) (mean_fits k (omega arith)) os (pos 0) (omega arith) (omega arith) each in
    (told.0, omega (arith, told.1))

pub mean_frees : Frees mean free_mean mean_size
unfolding mean_size
mean_frees = record { units = refl; begin = lit≤ tt; small = mean_fits; joins = mean_joins }

-- under worst

worst_joined : (values others : ℕ → ℤ) (b : ℕ) → b ≤ 2 ^ 59 → (os : List Outcome) (x : ℤ) → nat_abs x ≤ 2 ^ 59 → Same values others b os → joined_from worst values x os ≡ joined_from free_worst others x os
worst_joined values others b fits [] x held_x each = refl
worst_joined values others b fits (o ∷ os) x held_x each =
    let here = first_same values others b o os each in
    let size : nat_abs (others o.target) ≤ 2 ^ 59 = omega (arith, here.1) in
    let before : held x ≡ x = held_small x held_x in
    let value : held (values o.target) ≡ others o.target = ap held here.0 ∙ held_small (others o.target) size in
    let step : worst.join x o.weight (values o.target) ≡ int_min x (others o.target) = (λ i. int_min (before i) (value i)) in
    ap (λ y. joined_from worst values y os) step ∙ worst_joined values others b fits os (int_min x (others o.target)) (abs_min (2 ^ 59) x (others o.target) held_x size) (rest_same values others b o os each)

worst_size_is : (values others : ℕ → ℤ) (b : ℕ) (os : List Outcome) (x : ℤ) → nat_abs x ≤ b → Same values others b os → nat_abs (joined_from free_worst others x os) ≤ b
worst_size_is values others b [] x small each = small
worst_size_is values others b (o ∷ os) x small each =
    worst_size_is values others b os (int_min x (others o.target)) (abs_min b x (others o.target) small (first_same values others b o os each).1) (rest_same values others b o os each)

-- there is an outcome, so the first value counts for nothing
worst_some : (values others : ℕ → ℤ) (b : ℕ) → b ≤ 2 ^ 59 → (os : List Outcome) → 1 ≤ length os → Same values others b os → nat_abs (joined free_worst others os) ≤ b
worst_some values others b fits [] some each = absurd (omega arith)
worst_some values others b fits (o ∷ os) some each =
    worst_size_is values others b os (int_min most (others o.target)) (abs_first b (others o.target) fits (first_same values others b o os each).1) (rest_same values others b o os each)

-- and under worst
pub worst_size : ℕ → ℕ
worst_size k = (k + 1) * 512000

worst_fits : (k : ℕ) → k ≤ 12 → worst_size k ≤ 2 ^ 59
unfolding worst_size
worst_fits k h = omega arith

one_pow : (k : ℕ) → 1 ^ k ≡ 1
one_pow zero = refl
one_pow (suc k) = pow-succ' 1 k ∙ ap (λ n. 1 * n) (one_pow k)

worst_grows : (k : ℕ) → worst_size k + 1 ^ suc k * 512000 ≡ worst_size (suc k)
unfolding worst_size
worst_grows k =
    let one : 1 ^ suc k * 512000 ≡ 512000 = ap (λ n. n * 512000) (one_pow (suc k)) in
    omega arith

worst_joins : (k : ℕ) → suc k ≤ 12 → (values others : ℕ → ℤ) (os : List Outcome) → 1 ≤ length os → total os ≡ 8 → Same values others (worst_size k) os
    → (joined worst values os ≡ joined free_worst others os) × (nat_abs (joined free_worst others os) + 1 ^ suc k * 512000 ≤ worst_size (suc k))
worst_joins k short values others os some whole each =
    let fits = worst_fits k (omega arith) in
    let size = worst_some values others (worst_size k) fits os some each in
    (worst_joined values others (worst_size k) fits os most (lit≤ tt) each, omega (arith, size, worst_grows k))

pub worst_frees : Frees worst free_worst worst_size
unfolding worst_size
worst_frees = record { units = refl; begin = lit≤ tt; small = worst_fits; joins = worst_joins }
