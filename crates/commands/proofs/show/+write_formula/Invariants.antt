use Rattle.std.proofs.Common.{length}
use Rattle.commands.proofs.show.+write_formula.Given as goal

abbrev pub decreases-write_formula : goal.decreases-write_formula
decreases-write_formula g l = length l.nodes.now
