use Rattle.std.proofs.Common.{◌≡◌, ◌+◌, Err, eqb, [], ◌∷◌, get_or, take, drop, sym, ap, ◌∙◌, subst, rules}
use Rattle.model.specs.declared.Outcome.{Outcome}
use Rattle.model.specs.Histories.{targets_of}
use Rattle.bounded.specs.Listed.{listed}
use Rattle.register.specs.Keys.{enter_all}
use Rattle.register.specs.Register.{keys_of}
use Rattle.reach.specs.Adding.{Added}
use Rattle.reach.proofs.Adding.{onto_both, added_on, added_over, targets_more, targets_split}
use Rattle.reach.proofs.add_outcomes.Goals as goal

pub loop-way-preserved : goal.loop-way-preserved
loop-way-preserved c =
    let os = c.as_slice-way-items.result.now in
    let i = c.loop-way.way-index in
    let d : Outcome = record { target = 0; weight = 0 } in
    let inv = c.loop-way.invariant in
    let told = c.in_ok-list.ensures in
    let on = added_on c.args.codes.now c.loop-way.codes c.list.new.codes (targets_of (take i os)) ((get_or os i d).target ∷ []) inv.0 told.added in (
      on ∙ ap (enter_all eqb (keys_of c.args.codes.now)) (sym (targets_more os i d c.loop-way-test.true)),
      onto_both c.args.codes.now c.loop-way.codes c.list.new.codes inv.1 told.onto,
    )

pub returns-in_err-list : goal.returns-in_err-list
returns-in_err-list c =
    let os = c.as_slice-way-items.result.now in
    let i = c.loop-way.way-index in
    let d : Outcome = record { target = 0; weight = 0 } in
    let inv = c.loop-way.invariant in
    let told = c.in_err-list.ensures in
    let over = added_over c.args.codes.now c.loop-way.codes c.list.new.codes (targets_of (take i os)) ((get_or os i d).target ∷ []) (targets_of (drop (i + 1) os)) c.in_err-list.field-0.0 inv.0 inv.1.room told.added in
    let all = targets_split os i d c.loop-way-test.true in
    let said : c.from_residual.result ≡ Err c.in_err-list.field-0.0 = search rules in record {
      added =
          subst (λ answer. Added (targets_of (listed c.args.outcomes.now)) c.args.codes.now c.list.new.codes answer) (sym said)
          (subst (λ ks. Added ks c.args.codes.now c.list.new.codes (Err c.in_err-list.field-0.0)) (sym all ∙ ap targets_of c.as_slice-way-items.ensures.items) over);
      onto = onto_both c.args.codes.now c.loop-way.codes c.list.new.codes inv.1 told.onto;
    }
