-- The targets so far are entered, in the same table.
use Rattle.std.proofs.Common.{◌≡◌, eqb, take}
use Rattle.model.specs.Histories.{targets_of}
use Rattle.register.specs.Keys.{enter_all}
use Rattle.register.specs.Register.{keys_of}
use Rattle.reach.specs.Adding.{Onto}
use Rattle.reach.proofs.add_outcomes.Given as goal

abbrev pub invariant-loop-way : goal.invariant-loop-way
invariant-loop-way l =
    (keys_of l.codes ≡ enter_all eqb (keys_of l.initial.codes) (targets_of (take l.way-index l.way-items)))
    × Onto l.initial.codes l.codes
