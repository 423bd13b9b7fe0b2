use Rattle.std.proofs.Common.{◌≡◌, suc, ◌+◌, ◌<◌, Ok, Err, eqb, length, sym, ap, ◌∙◌, subst, rules, arith}
use Rattle.model.specs.Histories.{targets_of}
use Rattle.register.specs.Keys.{enter_all}
use Rattle.register.specs.Register.{keys_of}
use Rattle.reach.specs.Adding.{Added, room_in}
use Rattle.reach.specs.Search.{targets_below, leads_to}
use Rattle.reach.proofs.Adding.{onto_both, added_on, over_action}
use Rattle.reach.proofs.add_targets.Goals as goal

pub loop-action-preserved : goal.loop-action-preserved
loop-action-preserved g c =
    let m = g.M.SiteModel.meaning c.args.m.now in
    let inv = c.loop-action.invariant in
    let told = c.in_ok-add_outcomes.ensures in
    let one : suc c.loop-action.action ≡ c.loop-action.action + 1 = omega arith in
    let on = added_on c.args.codes.now c.loop-action.codes c.add_outcomes.new.codes (targets_below m c.args.state c.loop-action.action) (targets_of (m.outcomes c.args.state c.loop-action.action)) inv.0
    (subst (λ os. Added (targets_of os) c.loop-action.codes c.add_outcomes.new.codes (Ok tt)) c.outcomes.ensures.outcomes told.added) in (
      on ∙ ap (λ n. enter_all eqb (keys_of c.args.codes.now) (targets_below m c.args.state n)) one,
      onto_both c.args.codes.now c.loop-action.codes c.add_outcomes.new.codes inv.1 told.onto,
    )

pub returns-in_err-add_outcomes : goal.returns-in_err-add_outcomes
returns-in_err-add_outcomes g c =
    let m = g.M.SiteModel.meaning c.args.m.now in
    let a = c.loop-action.action in
    let inv = c.loop-action.invariant in
    let r = c.in_err-add_outcomes.field-0.0 in
    let told = subst (λ os. Added (targets_of os) c.loop-action.codes c.add_outcomes.new.codes (Err r)) c.outcomes.ensures.outcomes c.in_err-add_outcomes.ensures.added in
    let over = over_action (keys_of c.args.codes.now) (keys_of c.loop-action.codes) m c.args.state a (room_in (length c.args.codes.now.keys.now))
    (omega (arith, c.actions-action-end.ensures.actions))
    inv.0
    (subst (λ n. room_in n < length (enter_all eqb (keys_of c.loop-action.codes) (targets_of (m.outcomes c.args.state a)))) inv.1.room told.1) in
    let said : c.from_residual.result ≡ Err r = search rules in record {
      added = subst (Added (leads_to m c.args.state) c.args.codes.now c.add_outcomes.new.codes) (sym said) (told.0, over);
      onto = onto_both c.args.codes.now c.loop-action.codes c.add_outcomes.new.codes inv.1 c.in_err-add_outcomes.ensures.onto;
    }
