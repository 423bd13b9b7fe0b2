use Rattle.std.proofs.Common.{◌≡◌, ℕ, ◌+◌, Some, None, true, false, length, subst, rules, arith}
use borrow.Author.Tests.{tests}
use Rattle.std.proofs.lemmas.Iterator.{IsFirst-from_position, YieldsList-from_slice}
use Rattle.register.specs.Few.{few_of}
use Rattle.register.specs.Keys.{Found}
use Rattle.register.proofs.Search.{later_some, later_none, one_part}
use Rattle.register.proofs.few.Few.place.Goals as goal

pub returns-in_err-place : goal.returns-in_err-place
returns-in_err-place g c =
    let k = c.args.key.now in
    let eq = g.K.PartialEq.eq in
    let first = IsFirst-from_position _ _ c.position.result (λ x. eq x k ≡ true) (λ x. eq x k ≡ false) c.position.ensures.ran (YieldsList-from_slice c.as_slice.result.now cc) (λ x q h. search (rules, tests)) (λ x q h. search (rules, tests)) in
    let ks = few_of c.args.self.now in
    let is = c.as_slice.ensures in
    let none = one_part eq g.met.K.Eq.laws k ks (length ks) (search rules) c.args.self.now.apart None (later_none eq g.met.K.Eq.laws ks k 0 (search (rules, first, is))) in
    search (rules, none)

pub returns : goal.returns
returns g c =
    let k = c.args.key.now in
    let eq = g.K.PartialEq.eq in
    let first = IsFirst-from_position _ _ c.position.result (λ x. eq x k ≡ true) (λ x. eq x k ≡ false) c.position.ensures.ran (YieldsList-from_slice c.as_slice.result.now cc) (λ x q h. search (rules, tests)) (λ x q h. search (rules, tests)) in
    let ks = few_of c.args.self.now in
    let is = c.as_slice.ensures in
    let p = c.in_ok-place.place in
    let at : 0 + p ≡ p = omega arith in
    one_part eq g.met.K.Eq.laws k ks (length ks) (search rules) c.args.self.now.apart (Some p)
    (subst (λ (i : ℕ). Found eq ks k 0 (length ks) (Some i)) at (later_some eq g.met.K.Eq.laws ks k 0 p (search (rules, first, is)) (search (rules, first, is))))
