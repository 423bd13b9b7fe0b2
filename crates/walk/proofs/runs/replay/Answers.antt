use Rattle.std.proofs.Common.{◌≡◌, ◌-◌, not, drop, length, length-drop, ap, ◌∙◌, arith}
use Rattle.std.proofs.lemmas.List.{take_all}
use Rattle.walk.specs.Views.{walk_of}
use Rattle.walk.specs.Walker.{begun, is_choosing, reached, walk_has}
use Rattle.weighing.specs.Discounts.{discount_of}
use Rattle.walk.proofs.Replays.{reached_in_parts}
use Rattle.walk.proofs.runs.replay.Goals as goal

pub returns-clause-course : goal.returns-clause-course
returns-clause-course g c =
    let m = g.M.SiteModel.meaning c.args.model.now in
    let told = c.min-told.result in
    let rest = drop told c.args.numbers.now in
    let there : walk_of c.led.result ≡ reached discount_of m (begun discount_of m) c.args.numbers.now =
    c.led.ensures
    ∙ (λ i. reached discount_of m (c.stepped-walker.ensures.walker i) (take_all (length c.args.numbers.now - told) rest (omega (arith, length-drop told c.args.numbers.now)) i))
    ∙ reached_in_parts discount_of m (begun discount_of m) c.args.numbers.now (length c.args.steps.now) told c.min-told.ensures in
    record {
      opening = c.ended.ensures.opening ∙ c.sight-opening.ensures ∙ ap (walk_has m) c.open.ensures.begun;
      last = c.ended.ensures.last ∙ ap (walk_has m) there;
      closed = c.ended.ensures.closed ∙ ap (λ w. not (is_choosing w)) there;
    }
