-- The nodes that are left give what all give.
use Rattle.std.proofs.Common.{◌≡◌, length}
use Rattle.formula.specs.Resting.{spread}
use Rattle.formula.proofs.Passes.{Left}
use Rattle.formula.proofs.resting.mark_below.Given as goal

abbrev pub invariant-loop-i : goal.invariant-loop-i
invariant-loop-i l =
    (l.i-iterator.iter.count ≡ 0)
    × (Left l.nodes l.i-iterator.iter.iter.rest.now × (spread l.nodes (length l.i-iterator.iter.iter.rest.now) l.marks ≡ spread l.nodes (length l.nodes) l.initial.marks))
