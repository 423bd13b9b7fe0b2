use Rattle.writeout.proofs.Booking.{represents}
use Rattle.writeout.proofs.out.write_out.Goals as goal

pub returns-then-is_err-clause-represents : goal.returns-then-is_err-clause-represents
returns-then-is_err-clause-represents g c = represents (g.M.SiteModel.meaning c.args.m.now) (g.met.M.SiteModel.lawful c.args.m.now)

pub returns-else-is_err-clause-represents : goal.returns-else-is_err-clause-represents
returns-else-is_err-clause-represents g c = represents (g.M.SiteModel.meaning c.args.m.now) (g.met.M.SiteModel.lawful c.args.m.now)
