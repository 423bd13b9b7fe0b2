-- A bounded list has at most so many items.
use Rattle.std.proofs.Common.{ℕ, ◌≤◌, length, arith}
use Rattle.std.proofs.lemmas.List.{length-take}
use Rattle.bounded.specs.declared.Bounded.{Bounded}
use Rattle.bounded.specs.Listed.{listed}

pub few : {T : Type 0} {most : ℕ} (b : Bounded T most) → length (listed b) ≤ most
few b = omega (arith, length-take b.len b.places, b.fits)
