-- The outcomes so far are the landings of the effects so far.
use Rattle.std.proofs.Common.{◌≡◌, take}
use Rattle.bounded.specs.Listed.{listed}
use Rattle.rulemodel.specs.Meaning.{landings}
use Rattle.rulemodel.proofs.outcomes_of.Given as goal

abbrev pub invariant-loop-effect : goal.invariant-loop-effect
invariant-loop-effect l = listed l.ways ≡ landings l.s (take l.effect-index l.effects)
