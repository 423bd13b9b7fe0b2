use Rattle.std.proofs.Math.Seq.{take-set-lt}
use Rattle.bounded.proofs.Bounded.replace.Goals as goal

pub returns-then-i-self : goal.returns-then-i-self
returns-then-i-self g c = take-set-lt c.args.self.now.len c.args.self.now.places c.args.i c.args.item c.if-i-self.true
