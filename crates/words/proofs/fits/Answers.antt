use Rattle.std.proofs.Common.{◌*◌, ◌/◌, ◌^◌, ◌<◌, ◌≤◌, sym, ◌∙◌, inl, inr, arith, pow_pos, pow_mono}
use native.Mathlib.Nat.{div-eq_of_lt}
use Rattle.std.proofs.lemmas.Nat.{le-div}
use Rattle.std.proofs.lemmas.Bool.{lt-ltb, le-ltb, le-leb, eq-eqb, ne_eqb, cases_lt}
use Rattle.words.proofs.fits.Goals as goal

pub returns-then-count-ge32 : goal.returns-then-count-ge32
returns-then-count-ge32 c =
    let big : 2 ^ 32 ≤ 2 ^ c.args.count = pow_mono c.if-count-ge32.true in
    let small : c.args.mask < 2 ^ c.args.count = omega arith in
    le-leb 32 c.args.count c.if-count-ge32.true ∙ sym (lt-ltb c.args.mask (2 ^ c.args.count) small)

pub returns-else-count-ge32 : goal.returns-else-count-ge32
returns-else-count-ge32 c =
    elim (cases_lt c.args.mask (2 ^ c.args.count)) [
      | inl small ↦ eq-eqb (c.args.mask / 2 ^ c.args.count) 0 (div-eq_of_lt small) ∙ sym (lt-ltb c.args.mask (2 ^ c.args.count) small)
      | inr big ↦
          let up : 1 * 2 ^ c.args.count ≤ c.args.mask = omega arith in
          let some = le-div 1 c.args.mask (2 ^ c.args.count) (pow_pos c.args.count) up in
          ne_eqb (c.args.mask / 2 ^ c.args.count) 0 (λ z. omega arith) ∙ sym (le-ltb c.args.mask (2 ^ c.args.count) big)
    ]
