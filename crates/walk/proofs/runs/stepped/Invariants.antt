use Rattle.walk.specs.Views.{walk_of}
use Rattle.weighing.specs.Discounts.{discount_of}
use Rattle.walk.proofs.Replays.{Walked}
use Rattle.walk.proofs.runs.stepped.Given as goal

abbrev pub invariant-loop-i : goal.invariant-loop-i
invariant-loop-i g l = Walked discount_of (g.M.SiteModel.meaning l.model) l.given l.initial.steps l.i l.steps (walk_of l.walker)
