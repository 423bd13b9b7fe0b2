-- The items of the nodes so far are listed.
use Rattle.bounded.specs.Listed.{listed}
use Rattle.formula.proofs.Listing.{Going}
use Rattle.formula.proofs.items.keep_items.Given as goal

abbrev pub invariant-loop-i : goal.invariant-loop-i
invariant-loop-i g l =
    Going l.nodes l.marks l.initial.i-iterator.iter.b.rest.now l.i-iterator.iter.a.a.rest.now l.i-iterator.iter.a.b.rest.now l.i-iterator.iter.b.rest.now l.i-iterator.count (listed l.items)
