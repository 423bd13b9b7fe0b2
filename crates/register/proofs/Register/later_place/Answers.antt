use Rattle.std.proofs.Common.{◌≡◌, true, false, length, drop, ap, ◌-◌, ◌∙◌, rules, arith}
use borrow.Author.Tests.{tests}
use Rattle.std.proofs.lemmas.Iterator.{IsFirst-from_position, YieldsList-from_slice}
use Rattle.std.proofs.lemmas.List.{take_all, length-drop}
use Rattle.register.specs.Register.{keys_of}
use Rattle.register.proofs.Search.{later_some, later_none}
use Rattle.register.proofs.Register.later_place.Goals as goal

pub returns-in_err-place : goal.returns-in_err-place
returns-in_err-place g c =
    let k = c.args.key.now in
    let eq = g.K.PartialEq.eq in
    let first = IsFirst-from_position _ _ c.position.result (λ x. eq x k ≡ true) (λ x. eq x k ≡ false) c.position.ensures.ran (YieldsList-from_slice c.in_ok-later.later.now cc) (λ x q h. search (rules, tests)) (λ x q h. search (rules, tests)) in
    let ks = keys_of c.args.self.now in
    let size : length ks ≡ c.args.self.now.len = search rules in
    let part = c.as_slice.result.now in
    let rest : c.in_ok-later.later.now ≡ drop 4096 ks =
    c.in_ok-later.ensures.lookup.0.2 ∙ take_all (length part - 4096) (drop 4096 part) (omega (arith, length-drop 4096 part)) ∙ ap (drop 4096) c.as_slice.ensures in
    let none = later_none eq g.met.K.Eq.laws ks k 4096 (search (rules, first, rest)) in
    search (rules, size, none)

pub returns : goal.returns
returns g c =
    let k = c.args.key.now in
    let eq = g.K.PartialEq.eq in
    let first = IsFirst-from_position _ _ c.position.result (λ x. eq x k ≡ true) (λ x. eq x k ≡ false) c.position.ensures.ran (YieldsList-from_slice c.in_ok-later.later.now cc) (λ x q h. search (rules, tests)) (λ x q h. search (rules, tests)) in
    let ks = keys_of c.args.self.now in
    let size : length ks ≡ c.args.self.now.len = search rules in
    let part = c.as_slice.result.now in
    let rest : c.in_ok-later.later.now ≡ drop 4096 ks =
    c.in_ok-later.ensures.lookup.0.2 ∙ take_all (length part - 4096) (drop 4096 part) (omega (arith, length-drop 4096 part)) ∙ ap (drop 4096) c.as_slice.ensures in
    let some = later_some eq g.met.K.Eq.laws ks k 4096 c.in_ok-place.place (search (rules, first, rest)) (search (rules, first, rest)) in
    search (rules, size, some)
