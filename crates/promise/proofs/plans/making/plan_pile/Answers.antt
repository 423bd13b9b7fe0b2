use Rattle.std.proofs.Common.{◌≡◌, ◌+◌, ◌*◌, ◌≤◌, length, Ok, Err, w64, to_z, of_z, refl, subst, sym, ap, ◌∙◌, arith, rules}
use lib.ListN.{length-replicate}
use Rattle.planning.specs.Plans.{Filled, HoldsTo, answer_of, worth_at, choice_at, tabled}
use Rattle.sitebook.specs.Contents.{contents}
use Rattle.writeout.specs.Copies.{by_origin}
use Rattle.pilemodel.specs.Piles.{Piling}
use Rattle.promise.specs.Corresponding.{book_model, place_in}
use Rattle.promise.specs.Planning.{BestOn, PlansAs, start_worth}
use Rattle.promise.specs.Promises.{Promises}
use Rattle.promise.proofs.Earning.{best_of_pile}
use Rattle.promise.proofs.Preparing.{states_are, told_error, unplanned_as}
use Rattle.promise.proofs.Promising.{meaning_is, on_meaning, with_meaning}
use Rattle.writeout.proofs.Outcomes.{wrote}
use Rattle.promise.proofs.Whole.{front_length, holds_front, plan_of_same, sizes_fit, whole_plan, worth_told}
use Rattle.promise.proofs.plans.making.plan_pile.Given.{Over}
use Rattle.promise.proofs.plans.making.plan_pile.Goals as goal

pub returns-in_err-written-clause-answer : goal.returns-in_err-written-clause-answer
returns-in_err-written-clause-answer g c =
    let w = g.W.Weighing.meaning c.args.weighing.now in
    let m = g.P.SiteModel.meaning c.args.pile.now in
    let why = c.in_err-written.field-0.0 in
    let is : c.from_residual.result ≡ Err why = told_error c.from_residual.result why c.from_residual.ensures.1 in
    subst (PlansAs w m c.args.horizon c.args.tables.now) (sym is) (unplanned_as w m c.args.horizon c.args.tables.now why c.in_err-written.ensures.answer)

pub fill-requires : goal.fill-requires
fill-requires g c =
    let m = g.P.SiteModel.meaning c.args.pile.now in
    let book = (on_meaning m _ (g.met.P.Pile.laid c.args.pile.now) c.prepare.ensures.pile).represents in
    let t = c.args.tables.now in
    let w = c.in_ok-written.field-0.written in
    let told = c.in_ok-written.ensures.answer in
    let states = states_are m c.args.horizon (length t.codes.now) (length t.bytes.now) (length t.worths.now) (length t.choices.now) book w told.0 in
    let fit = sizes_fit (book_model m).span c.args.horizon (length t.worths.now) (length t.choices.now) told.2 in
    let size : length c.in_ok-written.field-0.choices.items ≡ c.args.horizon * w.states = ap length c.in_ok-written.ensures.room ∙ length-replicate (c.args.horizon * w.states) 0 in
    omega (arith, size, fit.1, ap (λ n. c.args.horizon * n) states)

pub invariant_of-result : goal.invariant_of-result
invariant_of-result g c =
    let m = g.P.SiteModel.meaning c.args.pile.now in
    let t = c.args.tables.now in
    let law = g.met.W.Weighing.lawful c.args.weighing.now in
    let fit = sizes_fit (book_model m).span c.args.horizon (length t.worths.now) (length t.choices.now) c.in_ok-written.ensures.answer.2 in
    record { short = fit.0; some = omega (arith, law.unit_small.0, c.unit.ensures.unit); few = omega (arith, law.unit_small.1, c.unit.ensures.unit) }

pub returns-clause-tables : goal.returns-clause-tables
returns-clause-tables g c =
    let w = g.W.Weighing.meaning c.args.weighing.now in
    let h = c.args.horizon in
    let told = c.in_ok-written.ensures in
    let plan = c.in_ok-worth.ensures in
    record {
      codes = told.codes;
      bytes = told.bytes;
      worths = subst (λ b. Filled (worth_at w (by_origin b) h) ((h + 1) * (by_origin b).span) c.args.tables.now.worths.now c.fill.new.worths) told.answer.1 plan.worths;
      choices = subst (λ b. Filled (choice_at w (by_origin b) h) (h * (by_origin b).span) c.args.tables.now.choices.now c.fill.new.choices) told.answer.1 plan.choices;
    }

-- the pile by what its type means
abbrev own : (g : Over) (c : goal.After-result-1 g) → Piling
own g c = with_meaning (g.P.SiteModel.meaning c.args.pile.now) (g.P.Pile.piling c.args.pile.now)

own_is : (g : Over) (c : goal.After-result-1 g) → own g c ≡ g.P.Pile.piling c.args.pile.now
own_is g c = meaning_is _ _ (g.met.P.Pile.laid c.args.pile.now)

own_promised : (g : Over) (c : goal.After-result-1 g) → Promises (g.P.SiteModel.meaning c.args.pile.now) (own g c)
own_promised g c = on_meaning _ _ (g.met.P.Pile.laid c.args.pile.now) c.prepare.ensures.pile

pub returns-clause-plan : goal.returns-clause-plan
returns-clause-plan g c =
    let w = g.W.Weighing.meaning c.args.weighing.now in
    let m = g.P.SiteModel.meaning c.args.pile.now in
    let promised = own_promised g c in
    let h = c.args.horizon in
    let t = c.args.tables.now in
    let told = c.in_ok-written.ensures.answer in
    let written = wrote m (length t.codes.now) (length t.bytes.now) c.in_ok-written.field-0.written told.0 in
    let states = states_are m h (length t.codes.now) (length t.bytes.now) (length t.worths.now) (length t.choices.now) promised.represents c.in_ok-written.field-0.written told.0 in
    let fit = sizes_fit (book_model m).span h (length t.worths.now) (length t.choices.now) told.2 in
    let filled : Filled (choice_at w (book_model m) h) (h * (book_model m).span) t.choices.now c.fill.new.choices = subst (λ x. Filled (choice_at w (by_origin x) h) (h * (by_origin x).span) t.choices.now c.fill.new.choices) told.1 c.in_ok-worth.ensures.choices in
    let places : length c.in_ok-written.field-0.choices.items ≡ h * (book_model m).span = ap length c.in_ok-written.ensures.room ∙ length-replicate (h * c.in_ok-written.field-0.written.states) 0 ∙ ap (λ n. h * n) states in
    let room : h * (book_model m).span ≤ length c.fill.new.choices = omega (arith, fit.1, filled.size) in
    let back : to_z w64 (of_z w64 c.in_ok-worth.worth) ≡ c.in_ok-worth.worth = search rules in
    let answer = subst (λ x. Ok c.in_ok-worth.worth ≡ answer_of w (by_origin x) h (length t.worths.now) (length t.choices.now)) told.1 c.in_ok-worth.ensures.answer in
    let worth = worth_told c.in_ok-worth.worth (start_worth w (book_model m) h) (book_model m).span h (length t.worths.now) (length t.choices.now) told.2 answer in
    plan_of_same w (own g c) _ h _ (own_is g c)
    (whole_plan w (g.met.W.Weighing.lawful c.args.weighing.now) (own g c) h promised.represents promised.corresponds
    _ written.few written.states written.words told.1 refl c.unit.ensures.unit (back ∙ worth)
    (ap length c.in_ok-worth.ensures.kept ∙ front_length _ _ c.fill.new.choices places room)
    (subst (HoldsTo (choice_at w (book_model m) h) (h * (book_model m).span)) (sym c.in_ok-worth.ensures.kept) (holds_front (choice_at w (book_model m) h) _ _ c.fill.new.choices places room filled.places)))

-- the plan in the table is the best
best : (g : Over) (c : goal.After-result-1 g)
    → BestOn (g.W.Weighing.meaning c.args.weighing.now) (g.P.Pile.piling c.args.pile.now) c.args.horizon
    (tabled c.fill.new.choices (book_model (g.P.Pile.piling c.args.pile.now).model).span (place_in (g.P.Pile.piling c.args.pile.now)) c.args.horizon)
    (to_z w64 (of_z w64 c.in_ok-worth.worth))
best g c =
    let w = g.W.Weighing.meaning c.args.weighing.now in
    let m = g.P.SiteModel.meaning c.args.pile.now in
    let h = c.args.horizon in
    let back : to_z w64 (of_z w64 c.in_ok-worth.worth) ≡ c.in_ok-worth.worth = search rules in
    let told = c.in_ok-written.ensures.answer in
    let few = (wrote m (length c.args.tables.now.codes.now) (length c.args.tables.now.bytes.now) c.in_ok-written.field-0.written told.0).few in
    subst (λ x. BestOn w x h (tabled c.fill.new.choices (book_model x.model).span (place_in x) h) (to_z w64 (of_z w64 c.in_ok-worth.worth))) (own_is g c)
    (subst (BestOn w (own g c) h (tabled c.fill.new.choices (book_model m).span (place_in (own g c)) h)) (sym back)
    (best_of_pile w (own g c) h c.fill.new.choices c.in_ok-worth.worth (contents c.in_ok-written.field-0.book.book) told.1 few (own_promised g c).corresponds c.in_ok-worth.ensures.nobody))

pub returns-clause-earns : goal.returns-clause-earns
returns-clause-earns g c = let b = best g c in (b.admissible, b.exactly)

pub returns-clause-nobody : goal.returns-clause-nobody
returns-clause-nobody g c = (best g c).nobody
