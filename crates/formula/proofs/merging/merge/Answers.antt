use Rattle.formula.proofs.Faithful.{faithful}
use Rattle.formula.proofs.merging.merge.Goals as goal

pub returns-then-words-gt-NODES-clause-faithful : goal.returns-then-words-gt-NODES-clause-faithful
returns-then-words-gt-NODES-clause-faithful c = faithful c.args.words.now

pub returns-then-words-le-FEW-clause-faithful : goal.returns-then-words-le-FEW-clause-faithful
returns-then-words-le-FEW-clause-faithful c = faithful c.args.words.now

pub returns-clause-faithful : goal.returns-clause-faithful
returns-clause-faithful c = faithful c.args.words.now
