use Rattle.std.proofs.Common.{◌≡◌, ◌*◌, ◌≤◌, length, take, Some, Ok, Err, sym, ap, ◌∙◌, subst, arith, mul-le-mul, rules}
use Rattle.planning.proofs.Accepting.{accepted_short}
use Rattle.refusal.proofs.Rows.{refused_by, unrefused}
use Rattle.planning.specs.Plans.{sizes_refusal}
use Rattle.sitebook.specs.Contents.{contents}
use Rattle.sitelayout.specs.Layout.{site_format}
use Rattle.sitelayout.specs.Site.{Site}
use Rattle.words.specs.Format.{Verdict, got, reading}
use Rattle.writeout.specs.Tables.{out_book, outcome}
use Rattle.promise.specs.Planning.{ReadyAs, plan_refusal}
use Rattle.promise.specs.declared.causes.Unplanned.TheVariants.{Refused}
use Rattle.promise.proofs.Preparing.{after_written, memory_as, refused_writing, states_are, told_error}
use Rattle.promise.proofs.Promising.{on_meaning}
use Rattle.promise.proofs.Rereading.{rereads}
use Rattle.writeout.proofs.Outcomes.{wrote}
use Rattle.promise.proofs.plans.making.prepare.Goals as goal

pub returns-in_err-written-clause-answer : goal.returns-in_err-written-clause-answer
returns-in_err-written-clause-answer g c =
    let m = g.P.SiteModel.meaning c.args.pile.now in
    let why = c.in_err-written.field-0.0 in
    let is : c.from_residual.result ≡ Err (Refused why) = told_error c.from_residual.result (Refused why) c.from_residual.ensures.1 in
    let refused = refused_writing m c.args.horizon (length c.args.codes.now) (length c.args.bytes.now) c.args.worths c.args.choices why (sym c.write_pile.ensures.answer ∙ c.in_err-written.was) in
    subst (ReadyAs m c.args.horizon (length c.args.codes.now) (length c.args.bytes.now) c.args.worths c.args.choices) (sym is) refused

pub returns-in_err-check_sizes-clause-answer : goal.returns-in_err-check_sizes-clause-answer
returns-in_err-check_sizes-clause-answer g c =
    let m = g.P.SiteModel.meaning c.args.pile.now in
    let book = (on_meaning m _ (g.met.P.Pile.laid c.args.pile.now) c.write_pile.ensures.pile).represents in
    let w = c.in_ok-written.written in
    let out : outcome m (length c.args.codes.now) (length c.args.bytes.now) ≡ Ok w = sym c.write_pile.ensures.answer ∙ c.in_ok-written.was in
    let why = c.in_err-check_sizes.field-0.0 in
    let is : c.from_residual-in_err-check_sizes.result ≡ Err (Refused why) = told_error c.from_residual-in_err-check_sizes.result (Refused why) c.from_residual-in_err-check_sizes.ensures.1 in
    let sizes = refused_by (sizes_refusal w.states c.args.horizon c.args.worths c.args.choices) tt why (sym c.check_sizes.ensures ∙ c.in_err-check_sizes.was) in
    let refused : plan_refusal m c.args.horizon (length c.args.codes.now) (length c.args.bytes.now) c.args.worths c.args.choices ≡ Some why =
    after_written m c.args.horizon (length c.args.codes.now) (length c.args.bytes.now) c.args.worths c.args.choices book w out ∙ sizes in
    subst (ReadyAs m c.args.horizon (length c.args.codes.now) (length c.args.bytes.now) c.args.worths c.args.choices) (sym is) refused

pub read_back-requires-clause-whole : goal.read_back-requires-clause-whole
read_back-requires-clause-whole g c =
    let m = g.P.SiteModel.meaning c.args.pile.now in
    let book = (on_meaning m _ (g.met.P.Pile.laid c.args.pile.now) c.write_pile.ensures.pile).represents in
    let w = c.in_ok-written.written in
    let out : outcome m (length c.args.codes.now) (length c.args.bytes.now) ≡ Ok w = sym c.write_pile.ensures.answer ∙ c.in_ok-written.was in
    let back : reading site_format (take (4 * w.words) c.write_pile.new.bytes) ≡ got (out_book m) = ap (λ b. reading site_format (take (4 * w.words) b)) c.in_ok-written.ensures.bytes ∙ rereads m book (length c.args.codes.now) (length c.args.bytes.now) w out in
    (out_book m, back)

pub returns-in_err-book-clause-answer : goal.returns-in_err-book-clause-answer
returns-in_err-book-clause-answer g c =
    let m = g.P.SiteModel.meaning c.args.pile.now in
    let book = (on_meaning m _ (g.met.P.Pile.laid c.args.pile.now) c.write_pile.ensures.pile).represents in
    let w = c.in_ok-written.written in
    let out : outcome m (length c.args.codes.now) (length c.args.bytes.now) ≡ Ok w = sym c.write_pile.ensures.answer ∙ c.in_ok-written.was in
    let sizes = unrefused (sizes_refusal w.states c.args.horizon c.args.worths c.args.choices) tt tt (sym c.check_sizes.ensures ∙ c.in_ok-check_sizes.was) in
    let fine = after_written m c.args.horizon (length c.args.codes.now) (length c.args.bytes.now) c.args.worths c.args.choices book w out ∙ sizes in
    let why = c.in_err-book.field-0.0 in
    let is : c.from_residual-in_err-book.result ≡ Err why = told_error c.from_residual-in_err-book.result why c.from_residual-in_err-book.ensures.1 in
    subst (ReadyAs m c.args.horizon (length c.args.codes.now) (length c.args.bytes.now) c.args.worths c.args.choices) (sym is)
    (memory_as m c.args.horizon (length c.args.codes.now) (length c.args.bytes.now) c.args.worths c.args.choices why c.in_err-book.ensures.memory fine)

pub overflow_mul-horizon : goal.overflow_mul-horizon
overflow_mul-horizon g c =
    let m = g.P.SiteModel.meaning c.args.pile.now in
    let w = c.in_ok-written.written in
    let out : outcome m (length c.args.codes.now) (length c.args.bytes.now) ≡ Ok w = sym c.write_pile.ensures.answer ∙ c.in_ok-written.was in
    let told = wrote m (length c.args.codes.now) (length c.args.bytes.now) w out in
    let short : c.args.horizon ≤ 12 = accepted_short w.states c.args.horizon c.args.worths c.args.choices (sym c.in_ok-check_sizes.was ∙ c.check_sizes.ensures) in
    let few : w.states ≤ 4096 = omega (arith, told.states, told.few) in
    let most : c.args.horizon * w.states ≤ 12 * 4096 = mul-le-mul short few in
    omega arith

pub returns-in_err-choices-clause-answer : goal.returns-in_err-choices-clause-answer
returns-in_err-choices-clause-answer g c =
    let m = g.P.SiteModel.meaning c.args.pile.now in
    let book = (on_meaning m _ (g.met.P.Pile.laid c.args.pile.now) c.write_pile.ensures.pile).represents in
    let w = c.in_ok-written.written in
    let out : outcome m (length c.args.codes.now) (length c.args.bytes.now) ≡ Ok w = sym c.write_pile.ensures.answer ∙ c.in_ok-written.was in
    let sizes = unrefused (sizes_refusal w.states c.args.horizon c.args.worths c.args.choices) tt tt (sym c.check_sizes.ensures ∙ c.in_ok-check_sizes.was) in
    let fine = after_written m c.args.horizon (length c.args.codes.now) (length c.args.bytes.now) c.args.worths c.args.choices book w out ∙ sizes in
    let why = c.in_err-choices.field-0.0 in
    let is : c.from_residual-in_err-choices.result ≡ Err why = told_error c.from_residual-in_err-choices.result why c.from_residual-in_err-choices.ensures.1 in
    subst (ReadyAs m c.args.horizon (length c.args.codes.now) (length c.args.bytes.now) c.args.worths c.args.choices) (sym is)
    (memory_as m c.args.horizon (length c.args.codes.now) (length c.args.bytes.now) c.args.worths c.args.choices why c.in_err-choices.ensures.memory fine)

pub returns-clause-answer : goal.returns-clause-answer
returns-clause-answer g c =
    let m = g.P.SiteModel.meaning c.args.pile.now in
    let book = (on_meaning m _ (g.met.P.Pile.laid c.args.pile.now) c.write_pile.ensures.pile).represents in
    let w = c.in_ok-written.written in
    let out : outcome m (length c.args.codes.now) (length c.args.bytes.now) ≡ Ok w = sym c.write_pile.ensures.answer ∙ c.in_ok-written.was in
    let back : reading site_format (take (4 * w.words) c.write_pile.new.bytes) ≡ got (out_book m) = ap (λ b. reading site_format (take (4 * w.words) b)) c.in_ok-written.ensures.bytes ∙ rereads m book (length c.args.codes.now) (length c.args.bytes.now) w out in
    let both : ◌≡◌ {A = Verdict Site} (got (contents c.in_ok-book.book.book)) (got (out_book m)) = sym c.in_ok-book.ensures.book ∙ back in
    let same : contents c.in_ok-book.book.book ≡ out_book m = cc in
    let sizes = unrefused (sizes_refusal w.states c.args.horizon c.args.worths c.args.choices) tt tt (sym c.check_sizes.ensures ∙ c.in_ok-check_sizes.was) in
    let states = states_are m c.args.horizon (length c.args.codes.now) (length c.args.bytes.now) c.args.worths c.args.choices book w out in
    (out, same, ap (λ n. sizes_refusal n c.args.horizon c.args.worths c.args.choices) (sym states) ∙ sizes)

pub read_back-requires-clause-room : goal.read_back-requires-clause-room
read_back-requires-clause-room g c =
    let m = g.P.SiteModel.meaning c.args.pile.now in
    let w = c.in_ok-written.written in
    let told = wrote m (length c.args.codes.now) (length c.args.bytes.now) w (sym c.write_pile.ensures.answer ∙ c.in_ok-written.was) in
    let same : length c.write_pile.new.bytes ≡ length c.args.bytes.now = search rules in
    omega (arith, told.room, told.words, same)
