use Rattle.std.proofs.Common.{◌%◌, ◌^◌, ◌<◌, ◌≤◌, eqb, sym, ap, ◌∙◌, arith, pow_mono}
use native.Mathlib.Nat.{div-eq_of_lt}
use Rattle.std.proofs.lemmas.Bool.{le-ltb}
use Rattle.truth.proofs.shows.Goals as goal

pub returns-else-label-lt32-clause-shows : goal.returns-else-label-lt32-clause-shows
returns-else-label-lt32-clause-shows c =
    let big : 2 ^ 32 ≤ 2 ^ c.args.label = pow_mono c.if-label-lt32.false in
    let small : c.args.mask < 2 ^ c.args.label = omega arith in
    le-ltb c.args.label 32 c.if-label-lt32.false ∙ sym (ap (λ x. eqb (x % 2) 1) (div-eq_of_lt small))
