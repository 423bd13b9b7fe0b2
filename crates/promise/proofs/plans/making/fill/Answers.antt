use Rattle.std.proofs.Common.{◌≡◌, w64, to_z, of_z, subst, sym, rules}
use Rattle.planning.specs.Plans.{tabled}
use Rattle.weighing.specs.Discounts.{discount_of}
use Rattle.worth.specs.Policies.{Best}
use Rattle.promise.proofs.plans.making.fill.Goals as goal

pub returns-clause-nobody : goal.returns-clause-nobody
returns-clause-nobody g c = λ ground sh code u.
    let back : to_z w64 (of_z w64 c.in_ok-worth.worth) ≡ c.in_ok-worth.worth = search rules in
    subst (Best (g.W.Weighing.meaning c.args.weighing.now) discount_of ground sh c.args.horizon (tabled c.plan.new.choices (g.M.SiteModel.meaning c.args.book.now).span code c.args.horizon)) (sym back) (c.in_ok-worth.ensures.nobody ground sh code u)
