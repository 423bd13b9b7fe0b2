use Rattle.walk.proofs.Agreement.{agrees_over_all, beside_over_all}
use Rattle.walk.proofs.states.Standing.open.Goals as goal

pub returns-clause-agrees : goal.returns-clause-agrees
returns-clause-agrees g c = agrees_over_all (g.M.SiteModel.meaning c.args.model.now)

pub returns-clause-beside : goal.returns-clause-beside
returns-clause-beside g c = beside_over_all (g.M.SiteModel.meaning c.args.model.now)
