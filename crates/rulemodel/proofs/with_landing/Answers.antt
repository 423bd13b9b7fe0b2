use Rattle.std.proofs.Common.{rules, ◌≡◌, eqb, ◌+◌, get_or, position, Some, arith}
use Rattle.std.proofs.lemmas.List.Quantifiers.{position-Some}
use Rattle.bounded.specs.Listed.{listed}
use Rattle.model.specs.declared.Outcome.{Outcome}
use Rattle.model.proofs.Laws.{weight_at}
use Rattle.rulemodel.proofs.Gathering.{added_at, added_new}
use Rattle.rulemodel.proofs.with_landing.Goals as goal

pub returns-in-Some : goal.returns-in-Some
returns-in-Some c room fits =
    let none : Outcome = record { target = 0; weight = 0 } in
    let ways = listed c.args.ways in
    let place = c.in-Some.place in
    let at : position (λ (o : Outcome). eqb c.args.target o.target) ways ≡ Some place = search rules in
    let there = added_at ways c.args.target c.args.weight place none at in
    let same : c.deref-in-Some.result.now ≡ ways = c.deref-in-Some.ensures.0 in
    let small = weight_at ways place none (position-Some (λ (o : Outcome). eqb c.args.target o.target) ways place none at).0 in
    let sum : c.saturating_add-weight.result ≡ (get_or ways place none).weight + c.args.weight = grind (arith, small, same, fits) in
    grind (arith, there, same, sum)

pub returns-in-None : goal.returns-in-None
returns-in-None c room fits =
    let last = added_new (listed c.args.ways) c.args.target c.args.weight (search rules) in
    grind (arith, last, room)
