use Rattle.std.proofs.Common.{sym, subst, ap, ◌∙◌, length, rules, arith, Ok, is_ok, false, ◌≡◌}
use Rattle.std.proofs.lemmas.List.{length-drop}
use Rattle.words.specs.Drafts.{Answers}
use Rattle.words.specs.declared.reader.Turn.TheVariants.{More, End}
use Rattle.words.proofs.Reading.{run_short}
use Rattle.words.proofs.Drafts.{reads_more, reads_end, reads_refused}
use Rattle.words.proofs.reader.read.Goals as goal

pub returns-in_default : goal.returns-in_default
returns-in_default g c =
    let d = g.D.Draft in
    let (s, (follows, so_far)) = c.loop-word.invariant.1 in
    let whole = so_far ∙ run_short d.format s c.loop-word.place c.loop-word.rest.now c.in_default.ensures in
    search (rules, whole)

pub returns-in-End : goal.returns-in-End
returns-in-End g c =
    let d = g.D.Draft in
    let (s, (follows, so_far)) = c.loop-word.invariant.1 in
    let (four, first, next) = c.in-Some.ensures in
    let answer : c.step.result ≡ Ok End = search rules in
    let (still, last) = reads_end d.Follows d.format s c.loop-word.place c.in-Some.word c.loop-word.rest.now c.in-Some.next.now four first next c.step.new.self (search (rules, c.step.ensures s follows, answer)) in
    subst (λ v. Answers d.Means v c.ended.result) (sym (so_far ∙ last)) (c.ended.ensures s still)

pub returns-in_err-map_err : goal.returns-in_err-map_err
returns-in_err-map_err g c =
    let d = g.D.Draft in
    let (s, (follows, so_far)) = c.loop-word.invariant.1 in
    let (four, first, next) = c.in-Some.ensures in
    let refused : is_ok c.step.result ≡ false = search rules in
    let (r, (is, wrong)) = reads_refused d.Follows d.format s c.loop-word.place c.in-Some.word c.loop-word.rest.now c.in-Some.next.now four first next c.step.new.self c.step.result (c.step.ensures s follows) refused in
    let whole = so_far ∙ wrong in
    search (rules, is, whole)

pub loop-word-preserved : goal.loop-word-preserved
loop-word-preserved g c =
    let d = g.D.Draft in
    let (s, (follows, so_far)) = c.loop-word.invariant.1 in
    let (four, first, next) = c.in-Some.ensures in
    let answer : c.step.result ≡ Ok More = search rules in
    let (t, (still, on)) = reads_more d.Follows d.format s c.loop-word.place c.in-Some.word c.loop-word.rest.now c.in-Some.next.now four first next c.step.new.self (search (rules, c.step.ensures s follows, answer)) in
    (omega (arith, c.loop-word.invariant.0, four, ap length next, length-drop 4 c.loop-word.rest.now), (t, (still, so_far ∙ on)))
