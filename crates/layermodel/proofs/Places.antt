-- What stands at an offset of a number, in so many bits; and a number from bits, one for each x: bit k is that of x number k.
use Rattle.std.proofs.Common.{◌≡◌, ℕ, zero, suc, ◌+◌, ◌*◌, ◌/◌, ◌%◌, ◌^◌, ◌<◌, Bool, true, false, eqb, List, [], ◌∷◌, ◌++◌, length, get_or, take, drop, sym, refl, ap, ◌∙◌, subst, pow-suc, mul_comm, add_comm, arith}
use native.Mathlib.Nat.{zero-div}
use Rattle.std.proofs.Math.Nat.{mod-eq_of_lt, add-mul-mod_self_left}
use Rattle.std.proofs.Math.Seq.{split_at}
use Rattle.std.specs.Int.{bit_at}
use Rattle.std.specs.List.{Contains}
use Rattle.std.proofs.lemmas.List.{length-take-le, take_more}
use Rattle.std.proofs.lemmas.List.Elements.{Contains-append_right}
use Rattle.std.proofs.lemmas.Nat.{shr-shr, shr_high}
use Rattle.std.proofs.lemmas.Nat.Bits.{bit_at-suc, bit_at_lowest}
use Rattle.truth.specs.Truth.{labelled}
use Rattle.layermodel.proofs.Sizes.{bits_below}
use Rattle.layermodel.specs.Verdicts.{bit, bits_of}

-- what stands above the low bits
pub above : (offset low high : ℕ) → low < 2 ^ offset → (low + 2 ^ offset * high) / 2 ^ offset ≡ high
above offset low high small =
    ap (λ n. n / 2 ^ offset) (add_comm low (2 ^ offset * high) ∙ ap (λ n. n + low) (mul_comm (2 ^ offset) high)) ∙ shr_high high offset low small

-- what stands at an offset, in `width` bits
pub part : (offset width low v high : ℕ) → low < 2 ^ offset → v < 2 ^ width → (low + 2 ^ offset * (v + 2 ^ width * high)) / 2 ^ offset % 2 ^ width ≡ v
part offset width low v high small fits =
    ap (λ n. n % 2 ^ width) (above offset low (v + 2 ^ width * high) small) ∙ add-mul-mod_self_left v (2 ^ width) high ∙ mod-eq_of_lt fits

-- each bit above an offset
pub bit_above : (offset low high k : ℕ) → low < 2 ^ offset → labelled (low + 2 ^ offset * high) (offset + k) ≡ labelled high k
bit_above offset low high k small = ap (λ n. eqb (n % 2) 1) (sym (shr-shr (low + 2 ^ offset * high) offset k) ∙ ap (λ n. n / 2 ^ k) (above offset low high small))

-- and each bit below it
bit_at_below : (q offset low high : ℕ) → q < offset → bit_at (low + 2 ^ offset * high) q ≡ bit_at low q
bit_at_below q zero low high l = absurd (omega arith)
bit_at_below zero (suc offset) low high l =
    let even : 2 ^ suc offset * high ≡ 2 * (2 ^ offset * high) = ap (λ p. p * high) (pow-suc 2 offset) ∙ omega arith in
    let same : (low + 2 ^ suc offset * high) % 2 ≡ low % 2 = omega (arith, even) in
    bit_at_lowest (low + 2 ^ suc offset * high) ∙ same ∙ sym (bit_at_lowest low)
bit_at_below (suc q) (suc offset) low high l =
    let even : 2 ^ suc offset * high ≡ 2 * (2 ^ offset * high) = ap (λ p. p * high) (pow-suc 2 offset) ∙ omega arith in
    let half : (low + 2 ^ suc offset * high) / 2 ≡ low / 2 + 2 ^ offset * high = omega (arith, even) in
    bit_at-suc (low + 2 ^ suc offset * high) q ∙ ap (λ n. bit_at n q) half ∙ bit_at_below q offset (low / 2) high (omega arith) ∙ sym (bit_at-suc low q)

pub bit_below_offset : (q offset low high : ℕ) → q < offset → labelled (low + 2 ^ offset * high) q ≡ labelled low q
bit_below_offset q offset low high l = ap (λ n. eqb n 1) (bit_at_below q offset low high l)

pub no_bit : (k : ℕ) → labelled 0 k ≡ false
no_bit k = ap (λ n. eqb (n % 2) 1) (zero-div (2 ^ k))

bit_small : (b : Bool) → bit b < 2 ^ 1
bit_small true = omega arith
bit_small false = omega arith

bit_is : (b : Bool) → eqb (bit b) 1 ≡ b
bit_is true = refl
bit_is false = refl

module _ {X : Type 0} (holds : X → Bool) where
  bits_of-append : (xs ys : List X) → bits_of holds (xs ++ ys) ≡ bits_of holds xs + 2 ^ length xs * bits_of holds ys
  bits_of-append [] ys = omega arith
  bits_of-append (x ∷ xs) ys =
      let even : 2 ^ suc (length xs) * bits_of holds ys ≡ 2 * (2 ^ length xs * bits_of holds ys) = ap (λ p. p * bits_of holds ys) (pow-suc 2 (length xs)) ∙ omega arith in
      ap (λ n. bit (holds x) + 2 * n) (bits_of-append xs ys) ∙ omega (arith, even)

  -- the bit of one x more stands above those of the xs before it
  bits_of-push : (xs : List X) (x : X) → bits_of holds (xs ++ (x ∷ [])) ≡ bits_of holds xs + 2 ^ length xs * bit (holds x)
  bits_of-push xs x = bits_of-append xs (x ∷ []) ∙ ap (λ n. bits_of holds xs + 2 ^ length xs * n) (omega arith)

  pub bits_of-more : (xs : List X) (i : ℕ) (x : X) → i < length xs → x ≡ get_or xs i x → bits_of holds (take (i + 1) xs) ≡ bits_of holds (take i xs) + 2 ^ i * bit (holds x)
  bits_of-more xs i x l is =
      ap (bits_of holds) (take_more xs i x l)
      ∙ bits_of-push (take i xs) (get_or xs i x)
      ∙ (λ k. bits_of holds (take i xs) + 2 ^ (length-take-le i xs (omega arith) k) * bit (holds (sym is k)))

  -- bit k is that of x number k
  pub bits_of-bit : (xs : List X) (k : ℕ) (d : X) → k < length xs → labelled (bits_of holds xs) k ≡ holds (get_or xs k d)
  bits_of-bit xs k d l =
      let x = get_or xs k d in
      let first = take k xs in
      let last = drop (suc k) xs in
      let long : length first ≡ k = length-take-le k xs (omega arith) in
      let whole : bits_of holds xs ≡ bits_of holds first + 2 ^ k * (bit (holds x) + 2 ^ 1 * bits_of holds last) =
      ap (bits_of holds) (split_at xs k d l) ∙ bits_of-append first (x ∷ last) ∙ ap (λ n. bits_of holds first + 2 ^ n * (bit (holds x) + 2 * bits_of holds last)) long in
      let low : bits_of holds first < 2 ^ k = subst (λ n. bits_of holds first < 2 ^ n) long (bits_below holds first) in
      ap (λ n. labelled n k) whole
      ∙ ap (λ n. eqb n 1) (part k 1 (bits_of holds first) (bit (holds x)) (bits_of holds last) low (bit_small (holds x)))
      ∙ bit_is (holds x)

-- equal bits make equal numbers
pub bits_of-same : {X : Type 0} (f g : X → Bool) (xs : List X) → ((x : X) → Contains xs x → f x ≡ g x) → bits_of f xs ≡ bits_of g xs
bits_of-same f g [] h = refl
bits_of-same f g (x ∷ xs) h = λ k. bit (h x (0, omega arith, refl) k) + 2 * bits_of-same f g xs (λ y has. h y (Contains-append_right (x ∷ []) xs y has)) k
