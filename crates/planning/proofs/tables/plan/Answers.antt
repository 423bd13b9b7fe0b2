use Rattle.std.proofs.Common.{◌≡◌, ◌+◌, ◌*◌, ◌<◌, length, get_or, pos, Ok, sym, ap, ◌∙◌, subst, w64, to_z, of_z, arith, rules, add-one, suc-mul}
use Rattle.std.proofs.lemmas.Nat.{div-mul-add, mod-mul-add}
use Rattle.weighing.specs.Discounts.{discount_of}
use Rattle.refusal.specs.Rows.{unless}
use Rattle.worth.specs.Policies.{Best}
use Rattle.worth.specs.Worths.{worth_of}
use Rattle.planning.specs.Plans.{tabled, sizes_refusal}
use Rattle.planning.proofs.Accepting.{accepted, accepted_short}
use Rattle.planning.proofs.Better.{nobody_better}
use Rattle.planning.proofs.Choosing.{chooses_lowest, nothing_held}
use Rattle.planning.proofs.tables.plan.Goals as goal

-- the answer is the start's worth with all slots left
start_worth : (g : _) (c : goal.After-result-1 g) → to_z w64 (of_z w64 (get_or c.fill.new.worths (c.args.horizon * c.count-states.result + c.start.result) (pos 0))) ≡ worth_of (g.W.Weighing.meaning c.args.weighing.now) discount_of (g.M.SiteModel.meaning c.args.model.now) c.args.horizon c.args.horizon (g.M.SiteModel.meaning c.args.model.now).start
start_worth g c =
    let m = g.M.SiteModel.meaning c.args.model.now in
    let w = g.W.Weighing.meaning c.args.weighing.now in
    let law = g.met.M.SiteModel.lawful c.args.model.now in
    let h = c.args.horizon in
    let states = c.count-states.ensures.count in
    let start = c.start.ensures.start in
    let inside : m.start < m.span = law.states.within m.start law.states.starts in
    let all : (h + 1) * m.span ≡ h * m.span + m.span = ap (λ k. k * m.span) (add-one h) ∙ suc-mul h m.span in
    let back : to_z w64 (of_z w64 (get_or c.fill.new.worths (h * c.count-states.result + c.start.result) (pos 0))) ≡ get_or c.fill.new.worths (h * c.count-states.result + c.start.result) (pos 0) = search rules in
    back
    ∙ (λ i. get_or c.fill.new.worths (h * states i + start i) (pos 0))
    ∙ c.fill.ensures.worths.places (h * m.span + m.start) (pos 0) (omega arith)
    ∙ (λ i. worth_of w discount_of m h (div-mul-add h m.span m.start inside i) (mod-mul-add h m.span m.start inside i))

pub returns-clause-answer : goal.returns-clause-answer
returns-clause-answer g c =
    let m = g.M.SiteModel.meaning c.args.model.now in
    let v = worth_of (g.W.Weighing.meaning c.args.weighing.now) discount_of m c.args.horizon c.args.horizon m.start in
    let ok = accepted c.count-states.result c.args.horizon (length c.args.worths.now) (length c.args.choices.now) c.in_ok-check_sizes.ensures v in
    ap Ok (start_worth g c) ∙ ok ∙ ap (λ n. unless (sizes_refusal n c.args.horizon (length c.args.worths.now) (length c.args.choices.now)) v) c.count-states.ensures.count

pub returns-clause-chooses : goal.returns-clause-chooses
returns-clause-chooses g c =
    chooses_lowest (g.W.Weighing.meaning c.args.weighing.now) (g.M.SiteModel.meaning c.args.model.now) (g.met.M.SiteModel.lawful c.args.model.now) (g.met.M.Numbered.numbered c.args.model.now) c.args.horizon c.fill.new.worths c.fill.new.choices c.fill.ensures.worths.places c.fill.ensures.choices.places

pub returns-clause-free : goal.returns-clause-free
returns-clause-free g c =
    nothing_held (g.W.Weighing.meaning c.args.weighing.now) (g.M.SiteModel.meaning c.args.model.now) (g.met.M.SiteModel.lawful c.args.model.now) (g.met.M.Numbered.numbered c.args.model.now) c.args.horizon c.fill.new.worths c.fill.new.choices c.fill.ensures.worths.places c.fill.ensures.choices.places
    (accepted_short c.count-states.result c.args.horizon (length c.args.worths.now) (length c.args.choices.now) c.in_ok-check_sizes.ensures)

pub returns-clause-nobody : goal.returns-clause-nobody
returns-clause-nobody g c = λ g' sh code u.
    subst (Best (g.W.Weighing.meaning c.args.weighing.now) discount_of g' sh c.args.horizon (tabled c.fill.new.choices (g.M.SiteModel.meaning c.args.model.now).span code c.args.horizon)) (sym (start_worth g c))
    (nobody_better (g.W.Weighing.meaning c.args.weighing.now) (g.met.W.Weighing.lawful c.args.weighing.now) (g.M.SiteModel.meaning c.args.model.now) (g.met.M.SiteModel.lawful c.args.model.now) c.args.horizon c.fill.new.choices c.fill.ensures.choices.places g' sh code u)
