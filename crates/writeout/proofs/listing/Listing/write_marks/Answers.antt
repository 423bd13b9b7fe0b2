use Rattle.std.proofs.Common.{◌≡◌, ◌+◌, [], ◌∷◌, ◌++◌, map, get_or, take, sym, ap, ◌∙◌, subst}
use Rattle.std.proofs.lemmas.List.{map_more}
use Rattle.pen.specs.Pens.{Adds}
use Rattle.pen.proofs.Laying.{adds_both}
use Rattle.sitelayout.proofs.Account.{marks-append}
use Rattle.sitelayout.specs.Layout.{mark_words}
use Rattle.writeout.specs.Book.{mark_of}
use Rattle.writeout.proofs.listing.Listing.write_marks.Goals as goal

pub loop-code-preserved : goal.loop-code-preserved
loop-code-preserved g c =
    let m = g.M.SiteModel.meaning c.args.self.now.model.now in
    let xs = c.as_slice-code-items.result.now in
    let i = c.loop-code.code-index in
    let code = get_or xs i 0 in
    let more : mark_words (map (mark_of m) (take (i + 1) xs)) ≡ mark_words (map (mark_of m) (take i xs)) ++ mark_words (mark_of m code ∷ []) =
    ap mark_words (map_more (mark_of m) xs i 0 c.loop-code-test.true) ∙ marks-append (map (mark_of m) (take i xs)) (mark_of m code ∷ []) in
    subst (λ l. Adds (mark_words (map (mark_of m) (take (i + 1) l))) c.args.pen.now c.write_mark.new.pen) c.as_slice-code-items.ensures
    (subst (λ ws. Adds ws c.args.pen.now c.write_mark.new.pen) (sym more)
    (adds_both (mark_words (map (mark_of m) (take i xs))) (mark_words (mark_of m code ∷ [])) c.args.pen.now c.loop-code.pen c.write_mark.new.pen
    (subst (λ l. Adds (mark_words (map (mark_of m) (take i l))) c.args.pen.now c.loop-code.pen) (sym c.as_slice-code-items.ensures) c.loop-code.invariant)
    c.write_mark.ensures))
