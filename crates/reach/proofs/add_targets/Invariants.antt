-- The targets of the actions so far are entered, in the same table.
use Rattle.std.proofs.Common.{◌≡◌, eqb}
use Rattle.register.specs.Keys.{enter_all}
use Rattle.register.specs.Register.{keys_of}
use Rattle.reach.specs.Adding.{Onto}
use Rattle.reach.specs.Search.{targets_below}
use Rattle.reach.proofs.add_targets.Given as goal

abbrev pub invariant-loop-action : goal.invariant-loop-action
invariant-loop-action g l =
    (keys_of l.codes ≡ enter_all eqb (keys_of l.initial.codes) (targets_below (g.M.SiteModel.meaning l.m) l.state l.action))
    × Onto l.initial.codes l.codes
