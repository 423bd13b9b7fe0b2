-- What is read of one word is just what was written there: `head_only`, `head_back`, `masks_only`, `masks_back`.
use Rattle.std.proofs.Common.{◌≡◌, ℕ, ◌+◌, ◌*◌, ◌^◌, ◌<◌, ◌≤◌, true, ◌&&◌, eqb, ltb, Ok, Result, ap, ◌∙◌, subst, arith, lit<, pow_mono}
use lib.Bits.{bit_and}
use Rattle.std.proofs.lemmas.Bool.{and_parts, and_from, eqb-true, eq-eqb, ltb-true}
use Rattle.refusal.specs.declared.Refusal.{Refusal}
use Rattle.refusal.specs.declared.Refusal.TheVariants.{WrongKind, UnusedBit, OutOfRange, SwitchTwice}
use Rattle.words.specs.Words.{field, kind}
use Rattle.words.specs.Tests.{within}
use Rattle.words.specs.Format.{require}
use Rattle.words.proofs.Tests.{within_parts, require_ok, require_passed}
use Rattle.words.proofs.Fields.{field_and_above, field_put, kind_put}
use Rattle.rulelayout.specs.declared.RuleHead.{RuleHead}
use Rattle.rulelayout.specs.declared.Masks.{Masks}
use Rattle.rulelayout.specs.Rule.{in_range, fits, good_head}
use Rattle.rulelayout.specs.Layout.{word_of_head, masks_word, head_of, masks_of}

put : (w below v above low width : ℕ) → w ≡ below + 2 ^ low * (v + 2 ^ width * above) → below < 2 ^ low → v < 2 ^ width → field w low width ≡ v
put w below v above low width e h k = ap (λ x. field x low width) e ∙ field_put below v above low width h k

below_pow : (x switches : ℕ) → ltb x (2 ^ switches) ≡ true → switches ≤ 10 → x < 2 ^ 10
below_pow x switches h few =
    let up : 2 ^ switches ≤ 2 ^ 10 = pow_mono few in
    omega (arith, ltb-true x (2 ^ switches) h)

-- the head

pub head_only : (w : ℕ) (h : RuleHead) → head_of w ≡ Ok h → (good_head h.switches h.actions h.start ≡ true) × (w ≡ word_of_head h.switches h.actions h.start)
head_only w h e =
    let x = field w 0 4 in
    let y = field w 4 4 in
    let z = field w 8 10 in
    let read : Result RuleHead Refusal = Ok (record { switches = x; actions = y; start = z }) in
    let ranged = require (good_head x y z) OutOfRange read in
    let own = require_ok (eqb (kind w) 6) WrongKind (require (eqb (field w 18 10) 0) UnusedBit ranged) h e in
    let none = require_ok (eqb (field w 18 10) 0) UnusedBit ranged h own.1 in
    let good = require_ok (good_head x y z) OutOfRange read h none.1 in
    let is : record { switches = x; actions = y; start = z } ≡ h = cc good.1 in
    let key = eqb-true (kind w) 6 own.0 in
    let unused = eqb-true (field w 18 10) 0 none.0 in
    let sum : w ≡ word_of_head x y z = omega (arith, key, unused, field_and_above w 0 4, field_and_above w 4 4, field_and_above w 8 10, field_and_above w 18 10) in
    subst (λ (h : RuleHead). (good_head h.switches h.actions h.start ≡ true) × (w ≡ word_of_head h.switches h.actions h.start)) is (good.0, sum)

pub head_parts : (switches actions start : ℕ) → good_head switches actions start ≡ true → (1 ≤ switches) × (switches ≤ 10) × (1 ≤ actions) × (actions ≤ 8) × (start < 2 ^ 10)
head_parts switches actions start h =
    let one = and_parts _ _ h in
    let two = and_parts _ _ one.1 in
    let a = within_parts 1 10 switches one.0 in
    let b = within_parts 1 8 actions two.0 in
    (a.0, a.1, b.0, b.1, below_pow start switches two.1 a.1)

pub head_low : (switches actions start : ℕ) → good_head switches actions start ≡ true → word_of_head switches actions start < 2 ^ 32
head_low switches actions start h = omega (arith, head_parts switches actions start h)

pub head_back : (switches actions start : ℕ) → good_head switches actions start ≡ true → head_of (word_of_head switches actions start) ≡ Ok (record { switches = switches; actions = actions; start = start })
head_back s a t h =
    let parts = head_parts s a t h in
    let ls : s < 16 = omega (arith, parts) in
    let la : a < 16 = omega (arith, parts) in
    let lt : t < 2 ^ 10 = parts.4 in
    let w = word_of_head s a t in
    let k : kind w ≡ 6 = kind_put (s + a * 2 ^ 4 + t * 2 ^ 8) 6 (omega arith) in
    let f0 : field w 0 4 ≡ s = put w 0 s (a + 2 ^ 4 * (t + 2 ^ 10 * (6 * 2 ^ 10))) 0 4 (omega arith) (lit< tt) ls in
    let f1 : field w 4 4 ≡ a = put w s a (t + 2 ^ 10 * (6 * 2 ^ 10)) 4 4 (omega arith) ls la in
    let f2 : field w 8 10 ≡ t = put w (s + a * 2 ^ 4) t (6 * 2 ^ 10) 8 10 (omega arith) (omega arith) lt in
    let f3 : field w 18 10 ≡ 0 = put w (s + a * 2 ^ 4 + t * 2 ^ 8) 0 6 18 10 (omega arith) (omega arith) (lit< tt) in
    let same : good_head (field w 0 4) (field w 4 4) (field w 8 10) ≡ good_head s a t = cc in
    require_passed _ _ _ (eq-eqb _ _ k) ∙ require_passed _ _ _ (eq-eqb _ _ f3) ∙ require_passed _ _ _ (same ∙ h) ∙ cc

-- an action or an outcome

pub range_parts : (switches x y n : ℕ) → in_range switches x y n ≡ true → (ltb x (2 ^ switches) ≡ true) × (ltb y (2 ^ switches) ≡ true) × (1 ≤ n) × (n ≤ 8)
range_parts switches x y n h =
    let one = and_parts (ltb x (2 ^ switches)) (ltb y (2 ^ switches) && within 1 8 n) h in
    let two = and_parts (ltb y (2 ^ switches)) (within 1 8 n) one.1 in
    let count = within_parts 1 8 n two.1 in
    (one.0, two.0, count.0, count.1)

pub fits_parts : (switches x y n : ℕ) → fits switches x y n ≡ true → (in_range switches x y n ≡ true) × (eqb (bit_and x y) 0 ≡ true)
fits_parts switches x y n h = and_parts (in_range switches x y n) (eqb (bit_and x y) 0) h

pub count_parts : (switches x y n : ℕ) → fits switches x y n ≡ true → (1 ≤ n) × (n ≤ 8)
count_parts switches x y n h =
    let parts = range_parts switches x y n (fits_parts switches x y n h).0 in
    (parts.2, parts.3)

pub masks_only : (k switches w : ℕ) (m : Masks) → masks_of k switches w ≡ Ok m → (fits switches m.first m.second m.count ≡ true) × (w ≡ masks_word k m.first m.second m.count)
masks_only k switches w m e =
    let x = field w 0 10 in
    let y = field w 10 10 in
    let n = field w 20 4 in
    let read : Result Masks Refusal = Ok (record { first = x; second = y; count = n }) in
    let apart = require (eqb (bit_and x y) 0) SwitchTwice read in
    let ranged = require (in_range switches x y n) OutOfRange apart in
    let own = require_ok (eqb (kind w) k) WrongKind (require (eqb (field w 24 4) 0) UnusedBit ranged) m e in
    let none = require_ok (eqb (field w 24 4) 0) UnusedBit ranged m own.1 in
    let good = require_ok (in_range switches x y n) OutOfRange apart m none.1 in
    let once = require_ok (eqb (bit_and x y) 0) SwitchTwice read m good.1 in
    let is : record { first = x; second = y; count = n } ≡ m = cc once.1 in
    let key = eqb-true (kind w) k own.0 in
    let unused = eqb-true (field w 24 4) 0 none.0 in
    let sum : w ≡ masks_word k x y n = omega (arith, key, unused, field_and_above w 0 10, field_and_above w 10 10, field_and_above w 20 4, field_and_above w 24 4) in
    subst (λ (m : Masks). (fits switches m.first m.second m.count ≡ true) × (w ≡ masks_word k m.first m.second m.count)) is (and_from (in_range switches x y n) (eqb (bit_and x y) 0) good.0 once.0, sum)

module _ (k switches x y n : ℕ) (known : k < 16) (few : switches ≤ 10) (h : fits switches x y n ≡ true) where
  masks_parts : (x < 2 ^ 10) × (y < 2 ^ 10) × (n < 16)
  masks_parts =
      let parts = range_parts switches x y n (fits_parts switches x y n h).0 in
      (below_pow x switches parts.0 few, below_pow y switches parts.1 few, omega (arith, parts))

  pub masks_low : masks_word k x y n < 2 ^ 32
  masks_low = omega (arith, masks_parts, known)

  pub masks_back : masks_of k switches (masks_word k x y n) ≡ Ok (record { first = x; second = y; count = n })
  masks_back =
      let lx : x < 2 ^ 10 = masks_parts.0 in
      let ly : y < 2 ^ 10 = masks_parts.1 in
      let ln : n < 16 = masks_parts.2 in
      let w = masks_word k x y n in
      let key : kind w ≡ k = kind_put (x + y * 2 ^ 10 + n * 2 ^ 20) k (omega arith) in
      let f0 : field w 0 10 ≡ x = put w 0 x (y + 2 ^ 10 * (n + 2 ^ 4 * (k * 2 ^ 4))) 0 10 (omega arith) (lit< tt) lx in
      let f1 : field w 10 10 ≡ y = put w x y (n + 2 ^ 4 * (k * 2 ^ 4)) 10 10 (omega arith) lx ly in
      let f2 : field w 20 4 ≡ n = put w (x + y * 2 ^ 10) n (k * 2 ^ 4) 20 4 (omega arith) (omega arith) ln in
      let f3 : field w 24 4 ≡ 0 = put w (x + y * 2 ^ 10 + n * 2 ^ 20) 0 k 24 4 (omega arith) (omega arith) (lit< tt) in
      let range = fits_parts switches x y n h in
      let same : in_range switches (field w 0 10) (field w 10 10) (field w 20 4) ≡ in_range switches x y n = cc in
      let once : eqb (bit_and (field w 0 10) (field w 10 10)) 0 ≡ eqb (bit_and x y) 0 = cc in
      require_passed _ _ _ (eq-eqb _ _ key) ∙ require_passed _ _ _ (eq-eqb _ _ f3) ∙ require_passed _ _ _ (same ∙ range.0) ∙ require_passed _ _ _ (once ∙ range.1) ∙ cc
