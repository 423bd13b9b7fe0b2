use Rattle.std.proofs.Common.{sym}
use Rattle.walk.specs.Views.{turn_of, walk_of}
use Rattle.weighing.specs.Discounts.{discount_of}
use Rattle.walk.proofs.Replays.{reached-none, reached_more}
use Rattle.walk.proofs.runs.led.Goals as goal

pub loop-number-init : goal.loop-number-init
loop-number-init g c = sym (reached-none discount_of (g.M.SiteModel.meaning c.args.model.now) (walk_of c.args.walker))

pub loop-number-preserved : goal.loop-number-preserved
loop-number-preserved g c =
    reached_more discount_of (g.M.SiteModel.meaning c.args.model.now) (walk_of c.args.walker) (walk_of c.loop-number.walker) c.args.numbers.now c.loop-number.number-index c.loop-number.invariant c.loop-number-test.true (turn_of c.turn-walker.result) c.turn-walker.ensures
