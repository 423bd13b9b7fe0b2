-- The bits so far are those of the items so far.
use Rattle.std.proofs.Common.{◌≡◌, ◌^◌, ◌<◌, Bool, take}
use Rattle.layermodel.specs.Verdicts.{bits_of}
use Rattle.layermodel.proofs.remembering.number.Given as goal

abbrev pub invariant-loop-place : goal.invariant-loop-place
invariant-loop-place g l = record {
  value : (p : _ → Bool) → ((x : _) (r : Bool) → goal.F-post g l.holds x r → r ≡ p x) → l.bits ≡ bits_of p (take l.place l.items);
  small : l.bits < 2 ^ l.place;
}
