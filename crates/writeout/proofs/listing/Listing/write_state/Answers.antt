use Rattle.std.proofs.Common.{◌+◌, ◌*◌, sym, subst}
use Rattle.register.specs.Register.{keys_of}
use Rattle.pen.specs.Pens.{Adds}
use Rattle.pen.proofs.Laying.{adds_both}
use Rattle.sitelayout.specs.Layout.{cell_word, cell_words}
use Rattle.writeout.specs.Book.{cell_of, cells_below}
use Rattle.writeout.proofs.Wording.{below_more}
use Rattle.writeout.proofs.listing.Listing.write_state.Goals as goal

pub loop-action-preserved : goal.loop-action-preserved
loop-action-preserved g c =
    let m = g.M.SiteModel.meaning c.args.self.now.model.now in
    let codes = keys_of c.args.self.now.codes.now in
    let a = c.loop-action.action in
    subst (λ ws. Adds ws c.args.pen.now c.write_cell.new.pen) (sym (below_more m codes c.args.code c.args.place a))
    (adds_both (cell_words m.actions (c.args.place * m.actions) (cells_below m codes c.args.code a)) (cell_word m.actions (c.args.place * m.actions + a) (cell_of m codes c.args.code a)) c.args.pen.now c.loop-action.pen c.write_cell.new.pen c.loop-action.invariant c.write_cell.ensures)
