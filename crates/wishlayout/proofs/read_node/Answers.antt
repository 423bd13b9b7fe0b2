use Rattle.std.proofs.Common.{rules}
use Rattle.wishlayout.proofs.NodeKinds.{unused}
use Rattle.wishlayout.proofs.read_node.Goals as goal

pub returns-in_err-open : goal.returns-in_err-open
returns-in_err-open c = search (rules, unused c.args.count c.args.word _ _ _ _ c.in_ok-kind.ensures (search rules) c.width.ensures c.in_err-open.ensures)
