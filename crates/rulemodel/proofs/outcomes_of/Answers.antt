use Rattle.std.proofs.Common.{◌+◌, ◌<◌, ◌≤◌, length, sym, ap, ◌∙◌, subst, get_or, take, arith}
use Rattle.std.proofs.lemmas.List.{take_all}
use Rattle.bounded.specs.Listed.{listed}
use Rattle.model.specs.Models.{total as weights}
use Rattle.rulelayout.specs.Rule.{total}
use Rattle.std.proofs.lemmas.Grind.{common_steps}
use Rattle.rulelayout.specs.declared.Effect.{Effect}
use Rattle.rulemodel.specs.Meaning.{landings, added, Gathered}
use Rattle.rulemodel.proofs.Gathering.{gathered}
use Rattle.rulemodel.proofs.Turns.{landings_more, room_left, light_yet}
use Rattle.rulemodel.proofs.outcomes_of.Goals as goal

pub loop-effect-preserved : goal.loop-effect-preserved
loop-effect-preserved c =
    let s = c.args.s in
    let es = c.args.effects.now in
    let i = c.loop-effect.effect-index in
    let none : Effect = record { set = 0; clear = 0; weight = 0 } in
    let here = c.loop-effect-test.true in
    let so_far = c.loop-effect.invariant in
    let all : (length es ≤ 8) × (total es < 256) = grind (arith, common_steps) in
    let room : length (listed c.loop-effect.ways) < 8 = omega (arith, ap length so_far, room_left s es i none here, all.0) in
    let light : weights (listed c.loop-effect.ways) + (get_or es i none).weight < 256 = omega (arith, ap weights so_far, light_yet s es i none here, all.1) in
    c.with_landing-ways.ensures room light
    ∙ ap (λ os. added os c.land.result (get_or es i none).weight) so_far
    ∙ ap (λ t. added (landings s (take i es)) t (get_or es i none).weight) c.land.ensures.landing
    ∙ sym (landings_more s es i none here)

pub returns-after-loop-effect-clause-gathered : goal.returns-after-loop-effect-clause-gathered
returns-after-loop-effect-clause-gathered c few light =
    let all = c.loop-effect.invariant ∙ ap (landings c.args.s) (take_all c.loop-effect.effect-index c.args.effects.now c.loop-effect-test.false) in
    subst (Gathered c.args.s c.args.effects.now) (sym all) (gathered c.args.s c.args.effects.now)
