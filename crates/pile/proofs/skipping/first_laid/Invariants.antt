-- The books before place i are judged, and none of the last ones is laid.
use Rattle.std.proofs.Common.{◌≡◌, ◌≤◌, List, length}
use Rattle.model.specs.Models.{Model}
use Rattle.wishbook.specs.declared.book.WishBook.{WishBook}
use Rattle.pile.specs.Skipping.{JudgedSoFar}
use Rattle.pile.proofs.skipping.first_laid.Given as goal

abbrev pub invariant-loop-i : goal.invariant-loop-i
invariant-loop-i g l =
    (l.i ≡ length l.refusals.items)
    × (length l.initial.refusals.items ≤ l.i)
    × ((base : Model) (laid : List WishBook) → JudgedSoFar base l.books l.initial.refusals.items (g.M.SiteModel.meaning l.below) laid → JudgedSoFar base l.books l.refusals.items (g.M.SiteModel.meaning l.below) laid)
