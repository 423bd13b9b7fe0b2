-- All so far are in.
use Rattle.std.proofs.Common.{◌≡◌, map, take}
use Rattle.bounded.specs.Listed.{listed}
use Rattle.layer.specs.InMemory.{moved}
use Rattle.layer.proofs.fitted.lift.Given as goal

abbrev pub invariant-loop-way : goal.invariant-loop-way
invariant-loop-way l = listed l.all ≡ map (moved l.memory) (take l.way-index l.way-items)
