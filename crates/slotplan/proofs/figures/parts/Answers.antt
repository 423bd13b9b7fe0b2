use Rattle.std.proofs.Common.{◌^◌, ◌≤◌, sym, subst, arith, rules}
use Rattle.std.proofs.Math.Nat.{one-le-pow}
use Rattle.planning.proofs.Powers.{unit_power}
use Rattle.slotplan.proofs.figures.parts.Goals as goal

pub pow-requires : goal.pow-requires
pow-requires c =
    let few : c.clamp-unit.result ^ c.min.result ≤ 2 ^ 36 = unit_power c.clamp-unit.result c.min.result (search rules) (search rules) in
    omega arith

small : (c : goal.After-pow) → c.pow.result ≤ 2 ^ 36
small c = subst (λ n. n ≤ 2 ^ 36) (sym c.pow.ensures) (unit_power c.clamp-unit.result c.min.result (search rules) (search rules))

pub overflow_mul-result : goal.overflow_mul-result
overflow_mul-result c = let few = small c in omega arith

pub returns-clause-some : goal.returns-clause-some
returns-clause-some c =
    let one : 1 ≤ c.pow.result = subst (λ n. 1 ≤ n) (sym c.pow.ensures) (one-le-pow c.min.result c.clamp-unit.result (search rules)) in
    omega arith

pub returns-clause-few : goal.returns-clause-few
returns-clause-few c = let few = small c in omega arith
