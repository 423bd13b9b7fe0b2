use Rattle.std.proofs.Common.{◌/◌, ◌%◌, ◌^◌, ◌<◌, ◌≤◌, sym, ap, ◌∙◌, mod-eq_of_lt, div-le_self, arith, pow_mono}
use native.Mathlib.Nat.{zero-mod, div-eq_of_lt}
use Rattle.words.proofs.field.Goals as goal

pub returns-then-low-ge32 : goal.returns-then-low-ge32
returns-then-low-ge32 c =
    let big : 2 ^ 32 ≤ 2 ^ c.args.low = pow_mono c.if-low-ge32.true in
    let small : c.args.word < 2 ^ c.args.low = omega arith in
    sym (ap (λ x. x % 2 ^ c.args.width) (div-eq_of_lt small) ∙ zero-mod (2 ^ c.args.width))

pub returns-then-width-ge32 : goal.returns-then-width-ge32
returns-then-width-ge32 c =
    let big : 2 ^ 32 ≤ 2 ^ c.args.width = pow_mono c.if-width-ge32.true in
    let less = div-le_self c.args.word (2 ^ c.args.low) in
    let small : c.args.word / 2 ^ c.args.low < 2 ^ c.args.width = omega arith in
    sym (mod-eq_of_lt small)
