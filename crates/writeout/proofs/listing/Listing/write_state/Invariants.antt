-- The words of the actions so far are written.
use Rattle.std.proofs.Common.{◌*◌}
use Rattle.register.specs.Register.{keys_of}
use Rattle.pen.specs.Pens.{Adds}
use Rattle.sitelayout.specs.Layout.{cell_words}
use Rattle.writeout.specs.Book.{cells_below}
use Rattle.writeout.proofs.listing.Listing.write_state.Given as goal

abbrev pub invariant-loop-action : goal.invariant-loop-action
invariant-loop-action g l =
    Adds (cell_words (g.M.SiteModel.meaning l.self.model.now).actions (l.place * (g.M.SiteModel.meaning l.self.model.now).actions) (cells_below (g.M.SiteModel.meaning l.self.model.now) (keys_of l.self.codes.now) l.code l.action)) l.initial.pen l.pen
