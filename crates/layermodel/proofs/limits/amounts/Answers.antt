-- A book has at most 16 wishes, each worth less than 65,536.
use Rattle.std.proofs.Common.{rules, arith, ◌≤◌, ◌∙◌, ap, length}
use Rattle.std.proofs.lemmas.Iterator.{YieldsList-from_slice}
use Rattle.std.proofs.lemmas.Iterator.Adapters.{fits_from_length, at_most_from_yields_List}
use Rattle.layermodel.proofs.Books.{few_wishes}
use Rattle.layermodel.proofs.limits.amounts.Goals as goal

pub sum-requires-clause-fits : goal.sum-requires-clause-fits
sum-requires-clause-fits c =
    let few : length c.wishes.result.now ≤ 16 = omega (arith, ap length c.wishes.ensures, few_wishes c.args.book.now) in
    fits_from_length _ _ 16 4294967296 (at_most_from_yields_List (YieldsList-from_slice c.wishes.result.now (ap (λ i. i.rest.now) c.map.ensures.source ∙ c.iter.ensures.rest)) few) c.map.ensures.closure (omega arith) (λ x r q k. search rules)
