use Rattle.std.proofs.Common.{◌≡◌, ◌<◌, Err, eqb, [], length, sym, ap, ◌∙◌, subst, rules, arith}
use Rattle.register.specs.Keys.{enter, enter_all}
use Rattle.register.specs.Register.{keys_of}
use Rattle.reach.specs.Adding.{room_in}
use Rattle.reach.specs.Reached.{Searched}
use Rattle.reach.specs.Search.{leads_to}
use Rattle.reach.proofs.Turns.{listed_start, codes_some}
use Rattle.reach.proofs.Adding.{length-keys_of, onto_self, onto_both, search_full, search_turn, search_turn_full, search_done, cleared_onto, cleared_none}
use Rattle.reach.proofs.search.Goals as goal

pub returns-in_err-list-clause-answer : goal.returns-in_err-list-clause-answer
returns-in_err-list-clause-answer g c =
    let m = g.M.SiteModel.meaning c.args.m.now in
    let law = g.met.M.SiteModel.lawful c.args.m.now in
    let told = c.in_err-list.ensures in
    let empty = cleared_none c.clear.new.self c.clear.ensures.empty in
    let full = search_full m law (room_in (length c.args.codes.now.keys.now)) (keys_of c.list.new.codes) (omega (arith, told.added.1, ap (λ l. length (enter eqb c.start.result l)) empty, ap length c.clear.ensures.same, codes_some m)) in
    let said : c.from_residual.result ≡ Err c.in_err-list.field-0.0 = search rules in
    subst (Searched m (room_in (length c.args.codes.now.keys.now)) (keys_of c.list.new.codes)) (sym said) (told.added.0, full.1, full.2)

pub loop-state-init : goal.loop-state-init
loop-state-init g c =
    let m = g.M.SiteModel.meaning c.args.m.now in
    let told = c.in_ok-list.ensures in
    let empty = cleared_none c.clear.new.self c.clear.ensures.empty in (
      told.added ∙ ap (enter eqb c.start.result) empty ∙ ap (λ s. enter eqb s []) c.start.ensures.start ∙ sym (listed_start m),
      omega arith,
      told.onto.few (omega (arith, c.clear.ensures.empty)),
      onto_self c.list.new.codes,
    )

pub returns-in_err-add_targets-clause-answer : goal.returns-in_err-add_targets-clause-answer
returns-in_err-add_targets-clause-answer g c =
    let m = g.M.SiteModel.meaning c.args.m.now in
    let law = g.met.M.SiteModel.lawful c.args.m.now in
    let told = c.in_err-add_targets.ensures in
    let at = c.in-Some.ensures in
    let inv = c.loop-state.invariant in
    let before = onto_both c.clear.new.self c.list.new.codes c.loop-state.codes c.in_ok-list.ensures.onto inv.3 in
    let room = (cleared_onto c.args.codes.now c.clear.new.self c.loop-state.codes c.clear.ensures.empty c.clear.ensures.same c.clear.ensures.lent before).1 in
    let full = search_turn_full m law (room_in (length c.args.codes.now.keys.now)) c.loop-state.place (keys_of c.loop-state.codes) (keys_of c.add_targets.new.codes) c.in-Some.state
    inv.0
    at.0
    (omega (arith, length-keys_of c.loop-state.codes, inv.2))
    (at.1 0)
    (subst (λ n. room_in n < length (enter_all eqb (keys_of c.loop-state.codes) (leads_to m c.in-Some.state))) room told.added.1) in
    let said : c.from_residual-in_err-add_targets.result ≡ Err c.in_err-add_targets.field-0.0 = search rules in
    subst (Searched m (room_in (length c.args.codes.now.keys.now)) (keys_of c.add_targets.new.codes)) (sym said) (told.added.0, full.1, full.2)

pub returns-in_err-add_targets-clause-rest : goal.returns-in_err-add_targets-clause-rest
returns-in_err-add_targets-clause-rest g c =
    let before = onto_both c.clear.new.self c.list.new.codes c.loop-state.codes c.in_ok-list.ensures.onto c.loop-state.invariant.3 in
    let all = onto_both c.clear.new.self c.loop-state.codes c.add_targets.new.codes before c.in_err-add_targets.ensures.onto in
    (cleared_onto c.args.codes.now c.clear.new.self c.add_targets.new.codes c.clear.ensures.empty c.clear.ensures.same c.clear.ensures.lent all).0

pub loop-state-preserved : goal.loop-state-preserved
loop-state-preserved g c =
    let m = g.M.SiteModel.meaning c.args.m.now in
    let told = c.in_ok-add_targets.ensures in
    let at = c.in-Some.ensures in
    let inv = c.loop-state.invariant in
    let turn = search_turn m c.loop-state.place (keys_of c.loop-state.codes) (keys_of c.add_targets.new.codes) c.in-Some.state inv.0 at.0 (at.1 0) told.added in
    (turn.0, turn.1, told.onto.few inv.2, onto_both c.list.new.codes c.loop-state.codes c.add_targets.new.codes inv.3 told.onto)

pub returns-clause-answer : goal.returns-clause-answer
returns-clause-answer g c =
    let m = g.M.SiteModel.meaning c.args.m.now in
    let law = g.met.M.SiteModel.lawful c.args.m.now in
    let inv = c.loop-state.invariant in
    let before = onto_both c.clear.new.self c.list.new.codes c.loop-state.codes c.in_ok-list.ensures.onto inv.3 in
    let room = (cleared_onto c.args.codes.now c.clear.new.self c.loop-state.codes c.clear.ensures.empty c.clear.ensures.same c.clear.ensures.lent before).1 in
    search_done m law (room_in (length c.args.codes.now.keys.now)) c.loop-state.place (keys_of c.loop-state.codes)
    inv.0
    inv.1
    c.in_default.ensures
    (omega (arith, length-keys_of c.loop-state.codes, inv.2, c.loop-state.codes.fits, room))
    (omega (arith, length-keys_of c.loop-state.codes, inv.2))

pub returns-clause-rest : goal.returns-clause-rest
returns-clause-rest g c =
    let before = onto_both c.clear.new.self c.list.new.codes c.loop-state.codes c.in_ok-list.ensures.onto c.loop-state.invariant.3 in
    (cleared_onto c.args.codes.now c.clear.new.self c.loop-state.codes c.clear.ensures.empty c.clear.ensures.same c.clear.ensures.lent before).0
