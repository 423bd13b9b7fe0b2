use Rattle.std.proofs.Common.{◌≡◌, ◌+◌, ◌*◌, ◌<◌, ◌++◌, length, get_or, take, sym, ap, ◌∙◌, subst, arith}
use Rattle.std.proofs.lemmas.List.{take_more, length-take-le}
use Rattle.register.specs.Register.{keys_of}
use Rattle.pen.specs.Pens.{Adds}
use Rattle.pen.proofs.Laying.{adds_both}
use Rattle.sitelayout.specs.Layout.{cell_words}
use Rattle.writeout.specs.Book.{cells_below, cells_of}
use Rattle.writeout.proofs.Wording.{states_more}
use Rattle.writeout.proofs.listing.Listing.write_cells.Goals as goal

pub loop-place-preserved : goal.loop-place-preserved
loop-place-preserved g c =
    let m = g.M.SiteModel.meaning c.args.self.now.model.now in
    let codes = keys_of c.args.self.now.codes.now in
    let same = c.as_slice-code-items.ensures in
    let i = c.loop-place.place in
    let l : i < length codes = omega (arith, c.loop-place-test.true, ap length same) in
    let code = get_or codes i 0 in
    let more : cell_words m.actions 0 (cells_of m codes (take (i + 1) codes)) ≡ cell_words m.actions 0 (cells_of m codes (take i codes)) ++ cell_words m.actions (i * m.actions) (cells_below m codes code m.actions) =
    ap (λ l. cell_words m.actions 0 (cells_of m codes l)) (take_more codes i 0 l)
    ∙ states_more m codes (take i codes) code i (length-take-le i codes (omega arith)) in
    subst (λ ws. Adds ws c.args.pen.now c.write_state.new.pen) (sym more)
    (adds_both (cell_words m.actions 0 (cells_of m codes (take i codes))) (cell_words m.actions (i * m.actions) (cells_below m codes code m.actions)) c.args.pen.now c.loop-place.pen c.write_state.new.pen c.loop-place.invariant
    (subst (λ xs. Adds (cell_words m.actions (i * m.actions) (cells_below m codes (get_or xs i 0) m.actions)) c.loop-place.pen c.write_state.new.pen) same c.write_state.ensures))
