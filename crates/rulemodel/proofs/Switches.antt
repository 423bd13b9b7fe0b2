-- What an outcome does to each switch, and what an action needs of each.
use Rattle.std.proofs.Common.{◌≡◌, ℕ, ◌+◌, ◌%◌, ◌^◌, ◌<◌, Bool, true, false, cond, not, ◌&&◌, ◌||◌, eqb, min, max, sym, refl, ap, ◌∙◌, ⊎_elim, w64, arith}
use Rattle.std.specs.Int.{bit_at, bit_not}
use lib.Bits.{bit_and, bit_or, bit_xor}
use Rattle.std.proofs.lemmas.Nat.{and_le_l, or_lt, xor_lt}
use Rattle.std.proofs.lemmas.Nat.Bits.{bit_at-lt, bit_at-zero, bit_at_and, bit_at_or, bit_at_xor, bit_at_not, same_from_bits, same_from_bits_below}
use Rattle.std.proofs.lemmas.Bool.{and_parts, and_from, both_ways, cases_Bool, cond_both, eq-eqb, eqb-true, eqb-false}
use Rattle.rulelayout.specs.declared.Effect.{Effect}
use Rattle.rulemodel.specs.Meaning.{is_on, landing, Lands, met_by, Meets}

-- the digit of a switch
abbrev digit : Bool → ℕ
digit b = cond b 1 0

digit_is : (n k : ℕ) → bit_at n k ≡ digit (is_on k n)
digit_is n k =
    cond_both (is_on k n) 1 0 (λ (v : ℕ). bit_at n k ≡ v) (eqb-true (bit_at n k) 1)
    (λ e. let other = eqb-false (bit_at n k) 1 e in omega (arith, bit_at-lt n k))

lands_digits : (x c t : Bool) → eqb (max ((max (digit x) (digit c) + digit c) % 2) (digit t)) 1 ≡ (t || (x && not c))
lands_digits false false false = refl
lands_digits false false true = refl
lands_digits false true false = refl
lands_digits false true true = refl
lands_digits true false false = refl
lands_digits true false true = refl
lands_digits true true false = refl
lands_digits true true true = refl

landing_at : (s : ℕ) (e : Effect) (k : ℕ) → bit_at (landing s e) k ≡ max ((max (bit_at s k) (bit_at e.clear k) + bit_at e.clear k) % 2) (bit_at e.set k)
landing_at s e k =
    bit_at_or (bit_xor (bit_or s e.clear) e.clear) e.set k
    ∙ ap (λ (n : ℕ). max n (bit_at e.set k)) (bit_at_xor (bit_or s e.clear) e.clear k ∙ ap (λ (n : ℕ). (n + bit_at e.clear k) % 2) (bit_at_or s e.clear k))

pub lands : (s : ℕ) (e : Effect) → Lands s e (landing s e)
lands s e k =
    ap (λ (n : ℕ). eqb n 1)
    (landing_at s e k
    ∙ λ i. max ((max (digit_is s k i) (digit_is e.clear k i) + digit_is e.clear k i) % 2) (digit_is e.set k i))
    ∙ lands_digits (is_on k s) (is_on k e.clear) (is_on k e.set)

-- switches go off by the mask of all others
pub cleared : (s clear : ℕ) → s < 2 ^ 64 → clear < 2 ^ 64 → bit_and s (bit_not w64 clear) ≡ bit_xor (bit_or s clear) clear
cleared s clear ls lc =
    same_from_bits_below 64 (bit_and s (bit_not w64 clear)) (bit_xor (bit_or s clear) clear)
    (omega (arith, and_le_l s (bit_not w64 clear)))
    (xor_lt 64 (bit_or s clear) clear (or_lt 64 s clear ls lc) lc)
    (λ k l. omega (arith, bit_at_and s (bit_not w64 clear) k, bit_at_not w64 clear k lc l, bit_at_xor (bit_or s clear) clear k, bit_at_or s clear k, bit_at-lt s k, bit_at-lt clear k))

-- needs

both_digits : (x y : Bool) → eqb (min (digit x) (digit y)) 1 ≡ (x && y)
both_digits false false = refl
both_digits false true = refl
both_digits true false = refl
both_digits true true = refl

on_both : (k a b : ℕ) → is_on k (bit_and a b) ≡ (is_on k a && is_on k b)
on_both k a b = ap (λ (n : ℕ). eqb n 1) (bit_at_and a b k ∙ λ i. min (digit_is a k i) (digit_is b k i)) ∙ both_digits (is_on k a) (is_on k b)

on_nothing : (k : ℕ) → is_on k 0 ≡ false
on_nothing k = ap (λ (n : ℕ). eqb n 1) (bit_at-zero k)

-- masks with the same switches on are one
same_masks : (a b : ℕ) → ((k : ℕ) → is_on k a ≡ is_on k b) → a ≡ b
same_masks a b h = same_from_bits a b (λ k. digit_is a k ∙ ap digit (h k) ∙ sym (digit_is b k))

-- a fact that implies another is not changed by it
and_same : (x y : Bool) → (y ≡ true → x ≡ true) → (x && y) ≡ y
and_same true y h = refl
and_same false false h = refl
and_same false true h = h refl

and_never : (x y : Bool) → (y ≡ true → x ≡ false) → (x && y) ≡ false
and_never false y h = refl
and_never true false h = refl
and_never true true h = h refl

needs_on : (s on : ℕ) → ((k : ℕ) → is_on k on ≡ true → is_on k s ≡ true) → bit_and s on ≡ on
needs_on s on h =
    same_masks (bit_and s on) on (λ k. on_both k s on ∙ and_same (is_on k s) (is_on k on) (h k))

needs_off : (s off : ℕ) → ((k : ℕ) → is_on k off ≡ true → is_on k s ≡ false) → bit_and s off ≡ 0
needs_off s off h =
    same_masks (bit_and s off) 0
    (λ k. on_both k s off ∙ and_never (is_on k s) (is_on k off) (h k) ∙ sym (on_nothing k))

pub meets : (s on off : ℕ) → Meets s on off (met_by s on off)
meets s on off = record {
  are_on =
      λ e k h.
      let same = eqb-true (bit_and s on) on (and_parts (eqb (bit_and s on) on) (eqb (bit_and s off) 0) e).0 in
      (and_parts (is_on k s) (is_on k on) (sym (on_both k s on) ∙ ap (is_on k) same ∙ h)).0;
  are_off =
      λ e k h.
      let none = eqb-true (bit_and s off) 0 (and_parts (eqb (bit_and s on) on) (eqb (bit_and s off) 0) e).1 in
      ⊎_elim
      (λ t. absurd (both_ways (is_on k 0) (on_nothing k) (sym (ap (is_on k) none) ∙ on_both k s off ∙ and_from (is_on k s) (is_on k off) t h)))
      (λ f. f)
      (cases_Bool (is_on k s));
  enough =
      λ ons offs.
      and_from (eqb (bit_and s on) on) (eqb (bit_and s off) 0)
      (eq-eqb (bit_and s on) on (needs_on s on ons))
      (eq-eqb (bit_and s off) 0 (needs_off s off offs));
}
