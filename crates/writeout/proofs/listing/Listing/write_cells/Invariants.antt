-- The words of the states so far are written.
use Rattle.std.proofs.Common.{take}
use Rattle.register.specs.Register.{keys_of}
use Rattle.pen.specs.Pens.{Adds}
use Rattle.sitelayout.specs.Layout.{cell_words}
use Rattle.writeout.specs.Book.{cells_of}
use Rattle.writeout.proofs.listing.Listing.write_cells.Given as goal

abbrev pub invariant-loop-place : goal.invariant-loop-place
invariant-loop-place g l =
    let m = g.M.SiteModel.meaning l.self.model.now in
    let codes = keys_of l.self.codes.now in
    Adds (cell_words m.actions 0 (cells_of m codes (take l.place codes))) l.initial.pen l.pen
