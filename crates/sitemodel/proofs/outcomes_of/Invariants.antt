use Rattle.std.proofs.Common.{◌≡◌, map, take}
use Rattle.bounded.specs.Listed.{listed}
use Rattle.sitemodel.specs.Meaning.{outcome_of}
use Rattle.sitemodel.proofs.outcomes_of.Given as goal

abbrev pub invariant-loop-way : goal.invariant-loop-way
invariant-loop-way l = listed l.all ≡ map outcome_of (take l.way-index l.moves)
