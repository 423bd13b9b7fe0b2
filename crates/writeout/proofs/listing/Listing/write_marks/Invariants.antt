-- The words of the states so far are written.
use Rattle.std.proofs.Common.{map, take}
use Rattle.register.specs.Register.{keys_of}
use Rattle.pen.specs.Pens.{Adds}
use Rattle.sitelayout.specs.Layout.{mark_words}
use Rattle.writeout.specs.Book.{mark_of}
use Rattle.writeout.proofs.listing.Listing.write_marks.Given as goal

abbrev pub invariant-loop-code : goal.invariant-loop-code
invariant-loop-code g l = Adds (mark_words (map (mark_of (g.M.SiteModel.meaning l.self.model.now)) (take l.code-index (keys_of l.self.codes.now)))) l.initial.pen l.pen
