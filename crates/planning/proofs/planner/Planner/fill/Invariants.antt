-- Both tables are filled as far as the places went.
use Rattle.std.proofs.Common.{◌-◌}
use Rattle.planning.specs.Plans.{choice_at, Filled, worth_at}
use Rattle.planning.proofs.planner.Planner.fill.Given as goal

abbrev pub invariant-loop-place : goal.invariant-loop-place
invariant-loop-place g l = record {
  worths : Filled (worth_at (g.W.Weighing.meaning l.self.weighing.now) (g.M.SiteModel.meaning l.self.model.now) l.self.horizon) l.place l.initial.worths l.worths;
  choices : Filled (choice_at (g.W.Weighing.meaning l.self.weighing.now) (g.M.SiteModel.meaning l.self.model.now) l.self.horizon) (l.place - (g.M.SiteModel.meaning l.self.model.now).span) l.initial.choices l.choices;
}
