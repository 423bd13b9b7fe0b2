-- A word is the sum of its fields, each at its place, and a field of such a sum is the number that was put there.
use Rattle.std.proofs.Common.{◌≡◌, ℕ, ◌+◌, ◌*◌, ◌/◌, ◌%◌, ◌^◌, ◌<◌, sym, ap, ◌∙◌, mod-lt, mul_comm, add_comm, arith}
use Rattle.std.proofs.lemmas.Nat.{shr-shr, div-add-mod', shr_high, mod_low, pow_pos}
use Rattle.words.specs.Words.{field, kind}

-- what stands from the bit low on is the field there, and then what stands above it
pub field_and_above : (w low width : ℕ) → w / 2 ^ low ≡ field w low width + 2 ^ width * (w / 2 ^ (low + width))
field_and_above w low width =
    sym (div-add-mod' (w / 2 ^ low) (2 ^ width))
    ∙ add_comm (w / 2 ^ low / 2 ^ width * 2 ^ width) (field w low width)
    ∙ ap (λ x. field w low width + x) (mul_comm (w / 2 ^ low / 2 ^ width) (2 ^ width) ∙ ap (λ x. 2 ^ width * x) (shr-shr w low width))

pub field_below : (w low width : ℕ) → field w low width < 2 ^ width
field_below w low width = mod-lt (w / 2 ^ low) (pow_pos width)

-- a number v of the given width, put at the bit low, between what is below it and what is above
pub field_put : (below v above low width : ℕ) → below < 2 ^ low → v < 2 ^ width → field (below + 2 ^ low * (v + 2 ^ width * above)) low width ≡ v
field_put below v above low width h k =
    let at : (below + 2 ^ low * (v + 2 ^ width * above)) / 2 ^ low ≡ v + 2 ^ width * above =
    ap (λ x. x / 2 ^ low) (add_comm below (2 ^ low * (v + 2 ^ width * above)) ∙ ap (λ x. x + below) (mul_comm (2 ^ low) (v + 2 ^ width * above))) ∙ shr_high (v + 2 ^ width * above) low below h in
    ap (λ x. x % 2 ^ width) (at ∙ add_comm v (2 ^ width * above) ∙ ap (λ x. x + v) (mul_comm (2 ^ width) above)) ∙ mod_low above width v k

pub kind_put : (below k : ℕ) → below < 2 ^ 28 → kind (k * 2 ^ 28 + below) ≡ k
kind_put below k h = shr_high k 28 below h

-- an example of use: a word with two fields and four unused bits is the sum of its parts
sum_of_parts : (w : ℕ) → field w 24 4 ≡ 0 → w ≡ kind w * 2 ^ 28 + field w 12 12 * 2 ^ 12 + field w 0 12
sum_of_parts w none = omega (arith, field_and_above w 0 12, field_and_above w 12 12, field_and_above w 24 4, none)
