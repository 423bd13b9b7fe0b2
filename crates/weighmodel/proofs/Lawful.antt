-- Both weighings are lawful: what they join is held, and raising a value never lowers what is joined.
use Rattle.std.specs.Prelude.{◌≡◌, ℕ, ◌+◌, ◌*◌, ◌≤◌, min, ℤ, pos, ◌+ℤ◌, ◌*ℤ◌, ◌≤ℤ◌}
use Rattle.std.proofs.Common.{mul-le-mul_left, mul-add, arith}
use borrow.Author.Differences.{up, down}
use Rattle.std.specs.Int.{int_min}
use Rattle.std.proofs.lemmas.Int.{ints, clamps}
use Rattle.weighmodel.specs.Weighings.{held, Within, LawfulWeigh, mean, worst}

-- ---- holding keeps an order, and so do sums, products and the lesser of two

pub held_within : (x : ℤ) → Within (held x)
held_within x = (omega (arith, ints, clamps), omega (arith, ints, clamps))

pub held_same : (x : ℤ) → Within x → held x ≡ x
held_same x w = omega (arith, ints, clamps)

pub held_twice : (x : ℤ) → held (held x) ≡ held x
held_twice x = held_same (held x) (held_within x)

pub held_raises : (x y : ℤ) → x ≤ℤ y → held x ≤ℤ held y
held_raises x y h = omega (arith, ints, clamps)

pub add_raises : (x y u v : ℤ) → x ≤ℤ y → u ≤ℤ v → (x +ℤ u) ≤ℤ (y +ℤ v)
add_raises x y u v h k = omega (arith, ints)

pub min_raises : (x y u v : ℤ) → x ≤ℤ y → u ≤ℤ v → int_min x u ≤ℤ int_min y v
min_raises x y u v h k = omega (arith, ints, clamps)

pub min_within : (x y : ℤ) → Within x → Within y → Within (int_min x y)
min_within x y h k = (omega (arith, ints, clamps), omega (arith, ints, clamps))

pub times_raises : (k : ℕ) (u v : ℤ) → u ≤ℤ v → (pos k *ℤ u) ≤ℤ (pos k *ℤ v)
times_raises k u v h =
    let n : up u + down v ≤ up v + down u = omega (arith, ints) in
    let m : k * (up u + down v) ≤ k * (up v + down u) = mul-le-mul_left k n in
    omega (arith, ints, mul-add k (up u) (down v), mul-add k (up v) (down u))

-- ---- the two weighings

-- the mean that is not yet held
abbrev summed : ℤ → ℕ → ℤ → ℤ
summed x k v = held x +ℤ (pos (min k 8) *ℤ held v)

weight_twice : (k : ℕ) → min (min k 8) 8 ≡ min k 8
weight_twice k = omega arith

summed_raises : (x y : ℤ) (k : ℕ) (u v : ℤ) → x ≤ℤ y → u ≤ℤ v → summed x k u ≤ℤ summed y k v
summed_raises x y k u v h l =
    add_raises (held x) (held y) (pos (min k 8) *ℤ held u) (pos (min k 8) *ℤ held v) (held_raises x y h)
    (times_raises (min k 8) (held u) (held v) (held_raises u v l))

pub mean_lawful : LawfulWeigh mean
mean_lawful = record {
  unit_small = (omega arith, omega arith);
  first_held = (omega (arith, ints), omega (arith, ints));
  result_held = λ x k v. held_within (summed x k v);
  given_held = λ x k v. rw (held_twice x, held_twice v, weight_twice k);
  raising = λ x y k u v h l. held_raises (summed x k u) (summed y k v) (summed_raises x y k u v h l);
}

pub worst_lawful : LawfulWeigh worst
worst_lawful = record {
  unit_small = (omega arith, omega arith);
  first_held = (omega (arith, ints), omega (arith, ints));
  result_held = λ x k v. min_within (held x) (held v) (held_within x) (held_within v);
  given_held = λ x k v. rw (held_twice x, held_twice v);
  raising = λ x y k u v h l. min_raises (held x) (held y) (held u) (held v) (held_raises x y h) (held_raises u v l);
}
