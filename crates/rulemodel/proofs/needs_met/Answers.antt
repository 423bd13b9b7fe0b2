use Rattle.std.proofs.Common.{◌≡◌, eqb, bit_and, subst, arith}
use Rattle.rulemodel.specs.Meaning.{met_by, Meets}
use Rattle.rulemodel.proofs.Switches.{meets}
use Rattle.rulemodel.proofs.needs_met.Goals as goal

pub returns-then-s-on-clause-switches : goal.returns-then-s-on-clause-switches
returns-then-s-on-clause-switches c =
    let same : met_by c.args.s c.args.on c.args.off ≡ eqb (bit_and c.args.s c.args.off) 0 = grind arith in
    subst (Meets c.args.s c.args.on c.args.off) same (meets c.args.s c.args.on c.args.off)

pub returns-else-s-on-clause-switches : goal.returns-else-s-on-clause-switches
returns-else-s-on-clause-switches c =
    let same : met_by c.args.s c.args.on c.args.off ≡ eqb (bit_and c.args.s c.args.on) c.args.on = grind arith in
    subst (Meets c.args.s c.args.on c.args.off) same (meets c.args.s c.args.on c.args.off)
