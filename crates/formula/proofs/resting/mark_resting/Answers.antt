use Rattle.std.proofs.Common.{length, refl}
use Rattle.formula.proofs.Passes.{rested}
use Rattle.formula.proofs.resting.mark_resting.Goals as goal

pub returns-clause-marked : goal.returns-clause-marked
returns-clause-marked c = (
  c.if-nodes-gt-NODES.false,
  rested c.args.nodes.now c.args.roots.now c.mark_all.new.marks c.mark_below.new.marks (length c.args.nodes.now)
      c.if-nodes-gt-NODES.false
      refl
      c.mark_all.ensures
      c.mark_below.ensures,
)
