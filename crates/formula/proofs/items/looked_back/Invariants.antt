-- The nodes so far are looked through.
use Rattle.std.proofs.Common.{◌≡◌, ℕ, ◌<◌, false, length, get_or}
use Rattle.formula.specs.Items.{back_below}
use Rattle.formula.proofs.items.looked_back.Given as goal

abbrev pub invariant-loop-node : goal.invariant-loop-node
invariant-loop-node l = record {
  long : length l.back ≡ 128;
  looked : (k : ℕ) → k < 128 → get_or l.back k false ≡ back_below l.nodes l.marks (length l.yielded) k;
}
