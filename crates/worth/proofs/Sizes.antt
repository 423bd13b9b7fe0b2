-- Sizes of signed numbers and of what a state earns by itself. For others: `held_small`, that a number of size at most
-- 2^59 is not held back; `abs_sum`, `abs_times`, `abs_min` and `abs_first`, sizes of sums, products and lesser numbers; `own_size`.
use Rattle.std.proofs.Common.{◌≡◌, ℕ, suc, ◌+◌, ◌-◌, ◌*◌, ◌^◌, ◌≤◌, ℤ, pos, negsuc, ◌+ℤ◌, ◌*ℤ◌, neg_ℤ, nat_abs, refl, le_refl, mul_assoc, mul-le-mul, arith}
use Rattle.std.specs.Int.{int_min}
use Rattle.std.proofs.lemmas.Int.{ints, clamps}
use Rattle.weighing.specs.Discounts.{discount_of}
use Rattle.weighmodel.specs.Weighings.{Weigh, most, held}
use Rattle.weighing.proofs.Table.{discounts_ruled}
use Rattle.worth.specs.Worths.{own_part}

pub abs_sum : (x y : ℤ) → nat_abs (x +ℤ y) ≤ nat_abs x + nat_abs y
abs_sum x y = omega (arith, ints)

abs_neg : (x : ℤ) → nat_abs (neg_ℤ x) ≡ nat_abs x
abs_neg x = omega (arith, ints)

pub abs_times : (k : ℕ) (v : ℤ) → nat_abs (pos k *ℤ v) ≡ k * nat_abs v
abs_times k (pos n) = refl
abs_times k (negsuc n) = abs_neg (pos (k * suc n))

pub abs_min : (b : ℕ) (x y : ℤ) → nat_abs x ≤ b → nat_abs y ≤ b → nat_abs (int_min x y) ≤ b
abs_min b x y h k = omega (arith, ints, clamps)

-- the first value of worst counts for nothing
pub abs_first : (b : ℕ) (v : ℤ) → b ≤ 2 ^ 59 → nat_abs v ≤ b → nat_abs (int_min most v) ≤ b
abs_first b v h k = omega (arith, ints, clamps)

pub held_small : (x : ℤ) → nat_abs x ≤ 2 ^ 59 → held x ≡ x
held_small x h = omega (arith, ints, clamps)

-- 256 times 2000 is the most that a state earns by itself, in units
pub own_size : (w : Weigh) (horizon k : ℕ) (r : ℤ) → nat_abs r ≤ 2000 → nat_abs (own_part w discount_of horizon k r) ≤ w.unit ^ k * 512000
own_size w horizon k r small =
    let times : nat_abs (own_part w discount_of horizon k r) ≡ w.unit ^ k * discount_of (horizon - k) * nat_abs r = abs_times (w.unit ^ k * discount_of (horizon - k)) r in
    let each : w.unit ^ k * discount_of (horizon - k) * nat_abs r ≤ w.unit ^ k * 256 * 2000 = mul-le-mul (mul-le-mul (le_refl (w.unit ^ k)) (discounts_ruled.bound (horizon - k))) small in
    let all : w.unit ^ k * 256 * 2000 ≡ w.unit ^ k * 512000 = mul_assoc (w.unit ^ k) 256 2000 in
    omega (arith, times, each, all)
