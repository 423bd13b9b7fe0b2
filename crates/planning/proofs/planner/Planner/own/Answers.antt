use Rattle.std.proofs.Common.{◌-◌, ◌*◌, ◌^◌, ◌≤◌, sym, subst, arith}
use Rattle.planning.proofs.Powers.{unit_power, counted_small}
use Rattle.planning.proofs.planner.Planner.own.Goals as goal

pub pow-requires : goal.pow-requires
pow-requires g c =
    let law = g.met.W.Weighing.lawful c.args.self.now.weighing.now in
    let few : c.unit-unit.result ≤ 8 = omega (arith, law.unit_small.1, c.unit-unit.ensures.unit) in
    let small : c.unit-unit.result ^ c.args.left ≤ 2 ^ 36 = unit_power c.unit-unit.result c.args.left few (omega (arith, c.requires, c.args.self.now.short)) in
    omega arith

-- the units times the discount
counted : (g : _) (c : goal.After-pow g) → c.pow.result * c.discount-slot.result ≤ 2 ^ 44
counted g c =
    let law = g.met.W.Weighing.lawful c.args.self.now.weighing.now in
    let few : c.unit-unit.result ≤ 8 = omega (arith, law.unit_small.1, c.unit-unit.ensures.unit) in
    let low : c.discount-slot.result ≤ 256 = omega (arith, c.discount-slot.ensures.rule.bound (c.args.self.now.horizon - c.args.left), c.discount-slot.ensures.value) in
    let small : c.unit-unit.result ^ c.args.left * c.discount-slot.result ≤ 2 ^ 44 = counted_small c.unit-unit.result c.args.left c.discount-slot.result few (omega (arith, c.requires, c.args.self.now.short)) low in
    subst (λ n. n * c.discount-slot.result ≤ 2 ^ 44) (sym c.pow.ensures) small

pub overflow_mul-pow : goal.overflow_mul-pow
overflow_mul-pow g c = let small = counted g c in omega arith

pub scaled-requires-clause-units : goal.scaled-requires-clause-units
scaled-requires-clause-units g c = counted g c
