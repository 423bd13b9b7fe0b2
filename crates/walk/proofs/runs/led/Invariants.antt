use Rattle.std.proofs.Common.{◌≡◌, take}
use Rattle.walk.specs.Views.{walk_of}
use Rattle.walk.specs.Walker.{reached}
use Rattle.weighing.specs.Discounts.{discount_of}
use Rattle.walk.proofs.runs.led.Given as goal

abbrev pub invariant-loop-number : goal.invariant-loop-number
invariant-loop-number g l = walk_of l.walker ≡ reached discount_of (g.M.SiteModel.meaning l.model) (walk_of l.initial.walker) (take l.number-index l.numbers)
