use Rattle.std.proofs.Common.{◌≡◌, cond, length, sym, ap, ◌∙◌, rules, arith}
use Rattle.truth.specs.Truth.{labelled}
use Rattle.wishbook.specs.Contents.{contents}
use Rattle.layermodel.proofs.Books.{few_nodes, kept}
use Rattle.layermodel.specs.Verdicts.{same_item}
use Rattle.layermodel.proofs.Recalling.{recalled_from, from_first, all_left, none_yet, still_left, one_down, tables_recall}
use Rattle.layermodel.proofs.recalled.Recalled.of.Goals as goal

pub loop-place-init : goal.loop-place-init
loop-place-init c =
    let items = (contents c.args.book.now).items in
    (search rules, (all_left items _ (search rules), none_yet items c.args.memory _ (search (rules, arith))))

pub loop-place-preserved : goal.loop-place-preserved
loop-place-preserved c =
    let items = (contents c.args.book.now).items in
    let told = c.in-Some.ensures.steps in
    let inv = c.loop-place.invariant in
    let bit : c.is_set.result ≡ labelled c.args.memory (length c.next.new.self.iter.iter.rest.now) = c.is_set.ensures ∙ ap (labelled c.args.memory) (omega (arith, told.1.1, inv.0)) in (
      search rules,
      (
        still_left items _ _ _ inv.1.0 told.1.0,
        λ x low.
            c.enter.ensures x low
            ∙ (λ k. cond (same_item x c.in-Some.item.now) (bit k) (inv.1.1 x low k))
            ∙ sym (one_down items _ _ _ inv.1.0 told.1.0 c.args.memory x),
      ),
    )

pub returns : goal.returns
returns c =
    let w = c.args.book.now in
    let none : length c.loop-place.place-iterator.iter.iter.rest.now ≡ 0 = search rules in
    let all = tables_recall (contents w) (kept w) (few_nodes w) c.args.memory c.loop-place.all
    (λ x low.
    c.loop-place.invariant.1.1 x low
    ∙ ap (λ n. recalled_from (contents w).items c.args.memory n x) none
    ∙ from_first (contents w).items c.args.memory x) in
    λ k x. all x k
