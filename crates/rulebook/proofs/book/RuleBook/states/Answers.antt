use Rattle.std.proofs.Common.{arith}
use Rattle.rulemodel.proofs.RuleLaws.{states_few}
use Rattle.rulebook.specs.Contents.{contents}
use Rattle.rulebook.proofs.book.RuleBook.states.Goals as goal

pub returns-clause-small : goal.returns-clause-small
returns-clause-small c = omega (arith, states_few (contents c.args.self.now) c.args.self.now.sound)
