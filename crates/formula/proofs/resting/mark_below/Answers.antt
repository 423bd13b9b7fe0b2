use Rattle.std.proofs.Common.{◌∙◌, rules}
use Rattle.formula.proofs.Passes.{still_left, spread_marked}
use Rattle.formula.proofs.resting.mark_below.Goals as goal

pub loop-i-preserved-then-at : goal.loop-i-preserved-then-at
loop-i-preserved-then-at c =
    let told = c.in-Some.ensures.steps in
    let inv = c.loop-i.invariant in
    (search rules, (still_left c.args.nodes.now _ _ _ inv.1.0 told.1.0, spread_marked c.args.nodes.now _ _ _ inv.1.0 told.1.0 c.loop-i.marks c.mark_operands.new.marks (search rules) c.mark_operands.ensures ∙ inv.1.1))
