-- The words of the outcomes so far are written.
use Rattle.std.proofs.Common.{map, take}
use Rattle.register.specs.Register.{keys_of}
use Rattle.pen.specs.Pens.{Adds}
use Rattle.sitelayout.specs.Layout.{move_words}
use Rattle.writeout.specs.Book.{move_to}
use Rattle.writeout.proofs.listing.Listing.write_moves.Given as goal

abbrev pub invariant-loop-way : goal.invariant-loop-way
invariant-loop-way g l = Adds (move_words (map (move_to (keys_of l.self.codes.now)) (take l.way-index l.way-items))) l.initial.pen l.pen
