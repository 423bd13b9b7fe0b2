-- Units to the power of the slots left are small. For others: `unit_power` and `counted_small`.
use Rattle.std.proofs.Common.{ℕ, ◌*◌, ◌^◌, ◌≤◌, le_trans, mul-le-mul, lit≤}
use Rattle.std.proofs.Math.Nat.{pow-le-pow_left}
use native.Mathlib.Nat.{pow-le-pow_right}

pub unit_power : (u k : ℕ) → u ≤ 8 → k ≤ 12 → u ^ k ≤ 2 ^ 36
unit_power u k few short = le_trans (pow-le-pow_left few k) (le_trans (pow-le-pow_right (lit≤ tt) short) (lit≤ tt))

pub counted_small : (u k d : ℕ) → u ≤ 8 → k ≤ 12 → d ≤ 256 → u ^ k * d ≤ 2 ^ 44
counted_small u k d few short low = le_trans (mul-le-mul (unit_power u k few short) low) (lit≤ tt)
