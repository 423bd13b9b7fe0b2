use Rattle.weighing.proofs.Table.{discounts_ruled}
use Rattle.weighing.proofs.discounts.discount.Goals as goal

pub returns-clause-rule : goal.returns-clause-rule
returns-clause-rule c = discounts_ruled
