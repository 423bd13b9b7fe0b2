-- The mean's joining in 64 bits: with everything held the product and the sum fit, so that the code computes the mean.
use Rattle.std.proofs.Common.{◌≡◌, ℕ, min, ℤ, pos, ◌+ℤ◌, ◌*ℤ◌, arith, w64, SFits, to_z, of_z}
use Rattle.std.proofs.lemmas.Int.{ints, to_z-of_z, to_z_pos}
use Rattle.weighmodel.specs.Weighings.{held, mean}
use Rattle.weighmodel.proofs.Lawful.{held_within}
use Rattle.weighmodel.proofs.Holding.{within_fits64, times_small}

-- a number that went to its bits and back
abbrev back : ℤ → ℤ
back z = to_z w64 (of_z w64 z)

held_back : (y : ℤ) → back (held y) ≡ held y
held_back y = to_z-of_z w64 (held y) (within_fits64 (held y) (held_within y))

weight_read : (k : ℕ) → to_z w64 (min k 8) ≡ pos (min k 8)
weight_read k = to_z_pos w64 (min k 8) (omega arith)

product_fits : (k : ℕ) (v : ℤ) → SFits w64 (pos (min k 8) *ℤ held v)
product_fits k v = let b = times_small (min k 8) (held v) (omega arith) (held_within v) in omega (arith, ints)

sum_fits : (k : ℕ) (x v : ℤ) → SFits w64 (held x +ℤ (pos (min k 8) *ℤ held v))
sum_fits k x v =
    let b = times_small (min k 8) (held v) (omega arith) (held_within v) in
    let w = held_within x in
    omega (arith, ints)

-- ---- the code's numbers: n is the held weight, r the held value and s the held value so far

module _ (k : ℕ) (v : ℤ) (n : ℕ) (r : ℤ) (weighs : n ≡ min k 8) (worth : r ≡ held v) where
  product_is : (to_z w64 n *ℤ back r) ≡ (pos (min k 8) *ℤ held v)
  product_is = rw (weighs, worth, weight_read k, held_back v)

  pub code_product_fits : SFits w64 (to_z w64 n *ℤ back r)
  code_product_fits = rw product_is (product_fits k v)

  module _ (x s : ℤ) (start : s ≡ held x) where
    sum_is : (back s +ℤ back (to_z w64 n *ℤ back r)) ≡ (held x +ℤ (pos (min k 8) *ℤ held v))
    sum_is = rw (product_is, start, held_back x, to_z-of_z w64 (pos (min k 8) *ℤ held v) (product_fits k v))

    pub code_sum_fits : SFits w64 (back s +ℤ back (to_z w64 n *ℤ back r))
    code_sum_fits = rw sum_is (sum_fits k x v)

    pub code_joins : (out : ℤ) → out ≡ held (back (back s +ℤ back (to_z w64 n *ℤ back r))) → back out ≡ mean.join x k v
    code_joins out e =
        rw (e, sum_is, to_z-of_z w64 (held x +ℤ (pos (min k 8) *ℤ held v)) (sum_fits k x v))
        (held_back (held x +ℤ (pos (min k 8) *ℤ held v)))
