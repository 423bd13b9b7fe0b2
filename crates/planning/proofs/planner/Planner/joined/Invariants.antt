-- The outcomes so far are joined.
use Rattle.std.proofs.Common.{◌≡◌, take}
use Rattle.weighmodel.specs.Weighings.{Within}
use Rattle.worth.specs.Worths.{joined}
use Rattle.planning.specs.Plans.{stored_worth}
use Rattle.planning.proofs.planner.Planner.joined.Given as goal

abbrev pub invariant-loop-way : goal.invariant-loop-way
invariant-loop-way g l = record {
  value : l.so_far ≡ joined (g.W.Weighing.meaning l.self.weighing.now) (stored_worth l.below) (take l.way-index l.way-items);
  held : Within l.so_far;
}
