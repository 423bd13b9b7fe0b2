use Rattle.std.proofs.Common.{take, arith}
use Rattle.std.proofs.lemmas.List.{length-take}
use Rattle.walk.specs.Views.{turn_of, walk_of}
use Rattle.weighing.specs.Discounts.{discount_of}
use Rattle.walk.proofs.Replays.{walked-none, walked_more, all_steps, all_there}
use Rattle.walk.proofs.runs.stepped.Goals as goal

pub loop-i-init : goal.loop-i-init
loop-i-init g c = walked-none discount_of (g.M.SiteModel.meaning c.args.model.now) (take c.min.result c.args.numbers.now) c.args.steps.now (walk_of c.open-walker.result) c.open-walker.ensures.begun

pub loop-i-preserved : goal.loop-i-preserved
loop-i-preserved g c =
    let given = take c.min.result c.args.numbers.now in
    walked_more discount_of (g.M.SiteModel.meaning c.args.model.now) given c.args.steps.now c.loop-i.i c.loop-i.steps (walk_of c.loop-i.walker) c.loop-i.invariant c.loop-i-test.true (omega (arith, length-take c.min.result c.args.numbers.now, c.min.ensures)) (turn_of c.turn-refusal.result) c.turn-refusal.ensures (record { refusal = c.turn-refusal.result.refusal; sight = c.sight.result }) (λ j. record { refusal = c.turn-refusal.result.refusal; sight = c.sight.ensures j })

pub returns-clause-steps : goal.returns-clause-steps
returns-clause-steps g c = all_steps discount_of (g.M.SiteModel.meaning c.args.model.now) c.args.numbers.now c.args.steps.now c.loop-i.i c.loop-i.steps (walk_of c.loop-i.walker) c.min.result c.min.ensures c.loop-i.invariant (omega (arith, c.loop-i.auto.i-end, c.loop-i-test.false))

pub returns-clause-walker : goal.returns-clause-walker
returns-clause-walker g c = all_there discount_of (g.M.SiteModel.meaning c.args.model.now) c.args.numbers.now c.args.steps.now c.loop-i.i c.loop-i.steps (walk_of c.loop-i.walker) c.min.result c.min.ensures c.loop-i.invariant (omega (arith, c.loop-i.auto.i-end, c.loop-i-test.false))
