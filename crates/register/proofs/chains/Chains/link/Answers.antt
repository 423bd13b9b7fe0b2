use Rattle.std.proofs.Common.{arith}
use Rattle.register.proofs.Latest.{chained_more}
use Rattle.register.proofs.chains.Chains.link.Goals as goal

pub returns-then-place-lt-CHAINED-clause-linked : goal.returns-then-place-lt-CHAINED-clause-linked
returns-then-place-lt-CHAINED-clause-linked c bs few within old =
    let s = c.args.self.now in
    chained_more s.heads s.earlier bs c.args.place c.args.bucket s.buckets (omega (arith, few, s.places)) within c.requires old
