-- Each word of a site book, read and written. For others: of a word that reads well, `head_reads` and the like say that it is
-- the one that is written for what was read, and what ranges that lies in; `head_fields` and the like say its kind and fields;
-- `head_written` and the like say that what is read from a word is what it was written from.
use Rattle.std.proofs.Common.{◌≡◌, ℕ, ◌+◌, ◌-◌, ◌*◌, ◌^◌, ◌<◌, ◌≤◌, Bool, true, ◌&&◌, ◌==◌, ltb, leb, Ok, ap, ◌∙◌, subst, arith, pow_mono}
use Rattle.std.proofs.lemmas.Bool.{and_parts, and_from, eqb-true, eq-eqb, ltb-true, lt-ltb, leb-true, le-leb}
use Rattle.refusal.specs.declared.Refusal.TheVariants.{WrongKind, UnusedBit, OutOfRange}
use Rattle.words.specs.Words.{field, kind}
use Rattle.words.specs.Tests.{within}
use Rattle.words.proofs.Fields.{field_and_above, field_below, field_put, kind_put}
use Rattle.words.proofs.Tests.{require_ok, require_passed, within_parts, within_from}
use Rattle.sitelayout.specs.declared.Entry.{Entry}
use Rattle.sitelayout.specs.declared.Head.{Head}
use Rattle.sitelayout.specs.declared.Move.{Move}
use Rattle.sitelayout.specs.declared.Worth.{Worth}
use Rattle.sitelayout.specs.declared.kind.Kind.{Kind}
use Rattle.sitelayout.specs.declared.kind.Kind.TheVariants as kinds
use Rattle.sitelayout.specs.Kinds.{number_of}
use Rattle.sitelayout.specs.Layout.{GoodHead}
use Rattle.sitelayout.specs.OneWord.{said, word_of_head, word_of_mask, word_of_reward, word_of_entry, word_of_move, head_of, mask_of, reward_of, entry_of, move_of}

-- a word that reads well has passed the three tests, and says what was read
said_ok : {X : Type 0} (k : Kind) (n w : ℕ) (ranges : Bool) (x y : X) → said k n w ranges x ≡ Ok y → (kind w ≡ number_of k) × (field w n (28 - n) ≡ 0) × (ranges ≡ true) × (x ≡ y)
said_ok k n w ranges x y e =
    let a = require_ok (kind w == number_of k) WrongKind _ y e in
    let b = require_ok (field w n (28 - n) == 0) UnusedBit _ y a.1 in
    let c = require_ok ranges OutOfRange (Ok x) y b.1 in
    let same : Ok x ≡ Ok y = c.1 in
    (eqb-true (kind w) (number_of k) a.0, eqb-true (field w n (28 - n)) 0 b.0, c.0, cc)

said_is : {X : Type 0} (k : Kind) (n w : ℕ) (ranges : Bool) (x y : X) → kind w ≡ number_of k → field w n (28 - n) ≡ 0 → ranges ≡ true → x ≡ y → said k n w ranges x ≡ Ok y
said_is k n w ranges x y a b c e =
    require_passed (kind w == number_of k) WrongKind _ (eq-eqb (kind w) (number_of k) a)
    ∙ require_passed (field w n (28 - n) == 0) UnusedBit _ (eq-eqb (field w n (28 - n)) 0 b)
    ∙ require_passed ranges OutOfRange (Ok x) c
    ∙ ap Ok e

abbrev pub GoodEntry : ℕ → ℕ → Entry → Type 0
GoodEntry states actions e = (e.state < states) × (e.action < actions) × (1 ≤ e.outcomes) × (e.outcomes ≤ 8)

abbrev pub GoodOutcome : ℕ → Move → Type 0
GoodOutcome states m = (m.target < states) × (1 ≤ m.weight) × (m.weight ≤ 8)

-- the kind of a word that reads well, its unused bits, its ranges and its fields, which are what was read

pub head_fields : (w : ℕ) (h : Head) → head_of w ≡ Ok h
    → (kind w ≡ 1) × (field w 22 6 ≡ 0) × ((within 1 4096 (field w 0 13) && (leb (field w 13 5) 24 && within 1 8 (field w 18 4))) ≡ true) × (record { states = field w 0 13; labels = field w 13 5; actions = field w 18 4 } ≡ h)
head_fields w h e = said_ok kinds.Head 22 w _ _ h e

pub mask_fields : (labels w m : ℕ) → mask_of labels w ≡ Ok m → (kind w ≡ 2) × (field w 24 4 ≡ 0) × (ltb (field w 0 24) (2 ^ labels) ≡ true) × (field w 0 24 ≡ m)
mask_fields labels w m e = said_ok kinds.Mask 24 w _ _ m e

pub reward_fields : (w : ℕ) (r : Worth) → reward_of w ≡ Ok r → (kind w ≡ 3) × (field w 24 4 ≡ 0) × (leb (field w 0 12) 4000 ≡ true) × (record { raised = field w 0 12; origin = field w 12 12 } ≡ r)
reward_fields w r e = said_ok kinds.Reward 24 w _ _ r e

pub entry_fields : (states actions w : ℕ) (x : Entry) → entry_of states actions w ≡ Ok x
    → (kind w ≡ 4) × (field w 19 9 ≡ 0) × ((ltb (field w 0 12) states && (ltb (field w 12 3) actions && within 1 8 (field w 15 4))) ≡ true) × (record { state = field w 0 12; action = field w 12 3; outcomes = field w 15 4 } ≡ x)
entry_fields states actions w x e = said_ok kinds.Entry 19 w _ _ x e

pub move_fields : (states w : ℕ) (m : Move) → move_of states w ≡ Ok m → (kind w ≡ 5) × (field w 16 12 ≡ 0) × ((ltb (field w 0 12) states && within 1 8 (field w 12 4)) ≡ true) × (record { target = field w 0 12; weight = field w 12 4 } ≡ m)
move_fields states w m e = said_ok kinds.Move 16 w _ _ m e

-- it is the word that is written for what was read

pub head_reads : (w : ℕ) (h : Head) → head_of w ≡ Ok h → (w ≡ word_of_head h.states h.labels h.actions) × GoodHead h
head_reads w h e =
    let p = head_fields w h e in
    let t = and_parts (within 1 4096 (field w 0 13)) (leb (field w 13 5) 24 && within 1 8 (field w 18 4)) p.2 in
    let u = and_parts (leb (field w 13 5) 24) (within 1 8 (field w 18 4)) t.1 in
    let n = within_parts 1 4096 (field w 0 13) t.0 in
    let l = leb-true (field w 13 5) 24 u.0 in
    let k = within_parts 1 8 (field w 18 4) u.1 in
    let is : w ≡ word_of_head (field w 0 13) (field w 13 5) (field w 18 4) =
    omega (arith, p.0, p.1, field_and_above w 0 13, field_and_above w 13 5, field_and_above w 18 4, field_and_above w 22 6) in
    subst (λ h. (w ≡ word_of_head h.states h.labels h.actions) × GoodHead h) p.3 (is, (n.0, n.1, l, k.0, k.1))

pub mask_reads : (labels w m : ℕ) → mask_of labels w ≡ Ok m → (w ≡ word_of_mask m) × (m < 2 ^ labels)
mask_reads labels w m e =
    let p = mask_fields labels w m e in
    let is : w ≡ word_of_mask (field w 0 24) = omega (arith, p.0, p.1, field_and_above w 0 24, field_and_above w 24 4) in
    subst (λ m. (w ≡ word_of_mask m) × (m < 2 ^ labels)) p.3 (is, ltb-true (field w 0 24) (2 ^ labels) p.2)

pub reward_reads : (w : ℕ) (r : Worth) → reward_of w ≡ Ok r → (w ≡ word_of_reward r.raised r.origin) × ((r.raised ≤ 4000) × (r.origin < 4096))
reward_reads w r e =
    let p = reward_fields w r e in
    let is : w ≡ word_of_reward (field w 0 12) (field w 12 12) = omega (arith, p.0, p.1, field_and_above w 0 12, field_and_above w 12 12, field_and_above w 24 4) in
    subst (λ r. (w ≡ word_of_reward r.raised r.origin) × ((r.raised ≤ 4000) × (r.origin < 4096))) p.3 (is, (leb-true (field w 0 12) 4000 p.2, field_below w 12 12))

pub entry_reads : (states actions w : ℕ) (x : Entry) → entry_of states actions w ≡ Ok x → (w ≡ word_of_entry x.state x.action x.outcomes) × GoodEntry states actions x
entry_reads states actions w x e =
    let p = entry_fields states actions w x e in
    let t = and_parts (ltb (field w 0 12) states) (ltb (field w 12 3) actions && within 1 8 (field w 15 4)) p.2 in
    let u = and_parts (ltb (field w 12 3) actions) (within 1 8 (field w 15 4)) t.1 in
    let n = within_parts 1 8 (field w 15 4) u.1 in
    let is : w ≡ word_of_entry (field w 0 12) (field w 12 3) (field w 15 4) =
    omega (arith, p.0, p.1, field_and_above w 0 12, field_and_above w 12 3, field_and_above w 15 4, field_and_above w 19 9) in
    subst (λ x. (w ≡ word_of_entry x.state x.action x.outcomes) × GoodEntry states actions x) p.3
    (is, (ltb-true (field w 0 12) states t.0, ltb-true (field w 12 3) actions u.0, n.0, n.1))

pub move_reads : (states w : ℕ) (m : Move) → move_of states w ≡ Ok m → (w ≡ word_of_move m) × GoodOutcome states m
move_reads states w m e =
    let p = move_fields states w m e in
    let t = and_parts (ltb (field w 0 12) states) (within 1 8 (field w 12 4)) p.2 in
    let n = within_parts 1 8 (field w 12 4) t.1 in
    let is : w ≡ word_of_move (record { target = field w 0 12; weight = field w 12 4 }) =
    omega (arith, p.0, p.1, field_and_above w 0 12, field_and_above w 12 4, field_and_above w 16 12) in
    subst (λ m. (w ≡ word_of_move m) × GoodOutcome states m) p.3 (is, (ltb-true (field w 0 12) states t.0, n.0, n.1))

pub head_written : (n l k : ℕ) → GoodHead (record { states = n; labels = l; actions = k }) → head_of (word_of_head n l k) ≡ Ok (record { states = n; labels = l; actions = k })
head_written n l k g =
    let f0 : field (word_of_head n l k) 0 13 ≡ n = ap (λ x. field x 0 13) (omega arith) ∙ field_put 0 n (l + 2 ^ 5 * (k + 2 ^ 10)) 0 13 (omega arith) (omega (arith, g.1)) in
    let f1 : field (word_of_head n l k) 13 5 ≡ l = ap (λ x. field x 13 5) (omega arith) ∙ field_put n l (k + 2 ^ 10) 13 5 (omega (arith, g.1)) (omega (arith, g.2)) in
    let f2 : field (word_of_head n l k) 18 4 ≡ k = ap (λ x. field x 18 4) (omega arith) ∙ field_put (n + l * 2 ^ 13) k (2 ^ 6) 18 4 (omega (arith, g.1, g.2)) (omega (arith, g.4)) in
    let f3 : field (word_of_head n l k) 22 6 ≡ 0 = ap (λ x. field x 22 6) (omega arith) ∙ field_put (n + l * 2 ^ 13 + k * 2 ^ 18) 0 1 22 6 (omega (arith, g.1, g.2, g.4)) (omega arith) in
    let kd : kind (word_of_head n l k) ≡ 1 = kind_put (n + l * 2 ^ 13 + k * 2 ^ 18) 1 (omega (arith, g.1, g.2, g.4)) in
    said_is kinds.Head 22 (word_of_head n l k) _ _ (record { states = n; labels = l; actions = k }) kd f3
    (and_from _ _ (ap (within 1 4096) f0 ∙ within_from 1 4096 n g.0 g.1) (and_from _ _ (ap (λ x. leb x 24) f1 ∙ le-leb l 24 g.2) (ap (within 1 8) f2 ∙ within_from 1 8 k g.3 g.4)))
    (cc (f0, f1, f2))

pub mask_written : (labels m : ℕ) → m < 2 ^ labels → labels ≤ 24 → mask_of labels (word_of_mask m) ≡ Ok m
mask_written labels m h few =
    let top : 2 ^ labels ≤ 2 ^ 24 = pow_mono few in
    let low : m < 2 ^ 24 = omega arith in
    let f0 : field (word_of_mask m) 0 24 ≡ m = ap (λ x. field x 0 24) (omega arith) ∙ field_put 0 m (2 ^ 5) 0 24 (omega arith) low in
    let f1 : field (word_of_mask m) 24 4 ≡ 0 = ap (λ x. field x 24 4) (omega arith) ∙ field_put m 0 2 24 4 low (omega arith) in
    let kd : kind (word_of_mask m) ≡ 2 = kind_put m 2 (omega arith) in
    said_is kinds.Mask 24 (word_of_mask m) _ _ m kd f1 (ap (λ x. ltb x (2 ^ labels)) f0 ∙ lt-ltb m (2 ^ labels) h) f0

pub reward_written : (raised origin : ℕ) → raised ≤ 4000 → origin < 4096 → reward_of (word_of_reward raised origin) ≡ Ok (record { raised = raised; origin = origin })
reward_written raised origin h k =
    let f0 : field (word_of_reward raised origin) 0 12 ≡ raised = ap (λ x. field x 0 12) (omega arith) ∙ field_put 0 raised (origin + 2 ^ 12 * 2 ^ 4 * 3) 0 12 (omega arith) (omega arith) in
    let f1 : field (word_of_reward raised origin) 12 12 ≡ origin = ap (λ x. field x 12 12) (omega arith) ∙ field_put raised origin (2 ^ 4 * 3) 12 12 (omega arith) k in
    let f2 : field (word_of_reward raised origin) 24 4 ≡ 0 = ap (λ x. field x 24 4) (omega arith) ∙ field_put (raised + origin * 2 ^ 12) 0 3 24 4 (omega arith) (omega arith) in
    let kd : kind (word_of_reward raised origin) ≡ 3 = kind_put (raised + origin * 2 ^ 12) 3 (omega arith) in
    said_is kinds.Reward 24 (word_of_reward raised origin) _ _ (record { raised = raised; origin = origin }) kd f2 (ap (λ x. leb x 4000) f0 ∙ le-leb raised 4000 h) (cc (f0, f1))

pub entry_written : (states actions s a n : ℕ) → states ≤ 4096 → actions ≤ 8 → GoodEntry states actions (record { state = s; action = a; outcomes = n }) → entry_of states actions (word_of_entry s a n) ≡ Ok (record { state = s; action = a; outcomes = n })
entry_written states actions s a n hs ha g =
    let f0 : field (word_of_entry s a n) 0 12 ≡ s = ap (λ x. field x 0 12) (omega arith) ∙ field_put 0 s (a + 2 ^ 3 * (n + 2 ^ 15)) 0 12 (omega arith) (omega (arith, g.0)) in
    let f1 : field (word_of_entry s a n) 12 3 ≡ a = ap (λ x. field x 12 3) (omega arith) ∙ field_put s a (n + 2 ^ 15) 12 3 (omega (arith, g.0)) (omega (arith, g.1)) in
    let f2 : field (word_of_entry s a n) 15 4 ≡ n = ap (λ x. field x 15 4) (omega arith) ∙ field_put (s + a * 2 ^ 12) n (2 ^ 11) 15 4 (omega (arith, g.0, g.1)) (omega (arith, g.3)) in
    let f3 : field (word_of_entry s a n) 19 9 ≡ 0 = ap (λ x. field x 19 9) (omega arith) ∙ field_put (s + a * 2 ^ 12 + n * 2 ^ 15) 0 4 19 9 (omega (arith, g.0, g.1, g.3)) (omega arith) in
    let kd : kind (word_of_entry s a n) ≡ 4 = kind_put (s + a * 2 ^ 12 + n * 2 ^ 15) 4 (omega (arith, g.0, g.1, g.3)) in
    said_is kinds.Entry 19 (word_of_entry s a n) _ _ (record { state = s; action = a; outcomes = n }) kd f3
    (and_from _ _ (ap (λ x. ltb x states) f0 ∙ lt-ltb s states g.0) (and_from _ _ (ap (λ x. ltb x actions) f1 ∙ lt-ltb a actions g.1) (ap (within 1 8) f2 ∙ within_from 1 8 n g.2 g.3)))
    (cc (f0, f1, f2))

pub move_written : (states : ℕ) (m : Move) → states ≤ 4096 → GoodOutcome states m → move_of states (word_of_move m) ≡ Ok m
move_written states m hs g =
    let f0 : field (word_of_move m) 0 12 ≡ m.target = ap (λ x. field x 0 12) (omega arith) ∙ field_put 0 m.target (m.weight + 2 ^ 16 * 5) 0 12 (omega arith) (omega (arith, g.0)) in
    let f1 : field (word_of_move m) 12 4 ≡ m.weight = ap (λ x. field x 12 4) (omega arith) ∙ field_put m.target m.weight (2 ^ 12 * 5) 12 4 (omega (arith, g.0)) (omega (arith, g.2)) in
    let f2 : field (word_of_move m) 16 12 ≡ 0 = ap (λ x. field x 16 12) (omega arith) ∙ field_put (m.target + m.weight * 2 ^ 12) 0 5 16 12 (omega (arith, g.0, g.2)) (omega arith) in
    let kd : kind (word_of_move m) ≡ 5 = kind_put (m.target + m.weight * 2 ^ 12) 5 (omega (arith, g.0, g.2)) in
    said_is kinds.Move 16 (word_of_move m) _ _ m kd f2 (and_from _ _ (ap (λ x. ltb x states) f0 ∙ lt-ltb m.target states g.0) (ap (within 1 8) f1 ∙ within_from 1 8 m.weight g.1 g.2)) (λ i. record { target = f0 i; weight = f1 i })
