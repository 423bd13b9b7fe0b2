-- What is known of held values besides the laws: they fit 64 bits, and so do products of a weight and one of them.
use Rattle.std.specs.Prelude.{◌≡◌, ℕ, suc, ◌*◌, ◌^◌, ◌≤◌, ℤ, pos, negsuc, ◌*ℤ◌, neg_ℤ, ◌≤ℤ◌, FitsSigned}
use Rattle.std.proofs.Common.{arith}
use Rattle.std.specs.Int.{w64}
use Rattle.std.proofs.lemmas.Nat.{mul-le}
use Rattle.std.proofs.lemmas.Int.{ints}
use Rattle.weighmodel.specs.Weighings.{Within}

pub within_fits64 : (x : ℤ) → Within x → FitsSigned w64 x
within_fits64 x w = omega (arith, ints)

pub le_through : (x y z : ℤ) → x ≤ℤ y → y ≤ℤ z → x ≤ℤ z
le_through x y z h k = omega (arith, ints)

pub le_both_ways : (x y : ℤ) → x ≤ℤ y → y ≤ℤ x → x ≡ y
le_both_ways x y h k = omega (arith, ints)

-- at most eight times a held value is at most 2^62
pub times_small : (k : ℕ) (v : ℤ) → k ≤ 8 → Within v → (neg_ℤ (pos (2 ^ 62)) ≤ℤ (pos k *ℤ v)) × ((pos k *ℤ v) ≤ℤ pos (2 ^ 62))
times_small k (pos n) h w =
    let b : n ≤ 2 ^ 59 = omega (arith, ints) in
    let m : k * n ≤ 2 ^ 62 = mul-le k n 8 (2 ^ 59) h b in
    (omega (arith, ints), omega (arith, ints))
times_small k (negsuc n) h w =
    let b : suc n ≤ 2 ^ 59 = omega (arith, ints) in
    let m : k * suc n ≤ 2 ^ 62 = mul-le k (suc n) 8 (2 ^ 59) h b in
    (omega (arith, ints), omega (arith, ints))
