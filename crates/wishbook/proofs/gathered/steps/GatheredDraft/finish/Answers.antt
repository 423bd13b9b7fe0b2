use Rattle.std.proofs.Common.{◌≡◌, None, Err, sym, subst, rules}
use Rattle.std.proofs.Math.Seq.{take-append_seam}
use Rattle.bounded.specs.Listed.{listed}
use Rattle.refusal.specs.declared.Refusal.TheVariants.{TooManyItems}
use Rattle.words.specs.Drafts.{Finished}
use Rattle.wishlayout.specs.Layout.{whole_book}
use Rattle.wishbook.specs.Book.{items_over}
use Rattle.wishbook.specs.Contents.{Remembered}
use Rattle.wishbook.proofs.Whole.{Means, parts, first_sixteen, read_back, over_read, book_sound, unwished, overfull, made}
use Rattle.wishbook.proofs.gathered.steps.GatheredDraft.finish.Goals as goal

pub returns-then-is_empty : goal.returns-then-is_empty
returns-then-is_empty c = λ s f. unwished c.args.self s (search rules) f

pub returns-in_err-items : goal.returns-in_err-items
returns-in_err-items c = λ s f.
    let own = parts c.args.self _ _ _ _ _ c.deref-2.ensures.0 c.merge.ensures.answer c.unwrap-merged.ensures c.deref-3.ensures.0 c.rename_all-wishes.ensures in
    let is : c.from_residual.result ≡ Err TooManyItems = search rules in
    let many : Remembered (items_over (listed c.unwrap-merged.result.nodes) (listed c.rename_all-wishes.result)) None = subst (Remembered (items_over (listed c.unwrap-merged.result.nodes) (listed c.rename_all-wishes.result))) c.in_err-items.ensures.ok_part c.remember.ensures in
    subst (Finished Means (whole_book s)) (sym is) (overfull c.args.self s _ _ (search rules) f own.0 own.1 many)

pub invariant_of-result : goal.invariant_of-result
invariant_of-result c =
    let own = parts c.args.self _ _ _ _ _ c.deref-2.ensures.0 c.merge.ensures.answer c.unwrap-merged.ensures c.deref-3.ensures.0 c.rename_all-wishes.ensures in
    let told : listed c.in_ok-items.items ≡ items_over (listed c.unwrap-merged.result.nodes) (listed c.rename_all-wishes.result) = search rules in
    record {
      sound = book_sound c.args.self _ _ own.0 (read_back c.rename_all-wishes.result _ _ (search (rules, first_sixteen c.rename_all-wishes.result, take-append_seam)) own.1);
      remembers = search (rules, over_read c.rename_all-wishes.result (listed c.unwrap-merged.result.nodes), told, first_sixteen c.rename_all-wishes.result, take-append_seam);
    }

pub returns : goal.returns
returns c = λ s f.
    let own = parts c.args.self _ _ _ _ _ c.deref-2.ensures.0 c.merge.ensures.answer c.unwrap-merged.ensures c.deref-3.ensures.0 c.rename_all-wishes.ensures in
    made c.args.self s _ (search rules) f own.0 (read_back c.rename_all-wishes.result _ _ (search (rules, first_sixteen c.rename_all-wishes.result, take-append_seam)) own.1)
