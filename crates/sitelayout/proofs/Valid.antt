-- What a valid site book has, by name. For others: `validly` of the whole book, `cell_good` of the outcomes of an action,
-- `mark_parts` of a state, `move_parts` of an outcome.
use Rattle.std.proofs.Common.{◌≡◌, ℕ, ◌*◌, ◌^◌, ◌<◌, ◌≤◌, true, false, ◌&&◌, eqb, ltb, leb, List, [], ◌∷◌, length, refl, arith}
use Rattle.std.proofs.lemmas.Bool.{and_parts, leb-true, ltb-true, eqb-true, true≢false}
use Rattle.words.specs.Tests.{all, within, none}
use Rattle.words.proofs.Tests.{within_parts}
use Rattle.sitelayout.specs.declared.Mark.{Mark}
use Rattle.sitelayout.specs.declared.Move.{Move}
use Rattle.sitelayout.specs.Site.{Site, apart, total, good_mark, good_move, good_cell, waits, valid}
use Rattle.sitelayout.proofs.OneWords.{GoodOutcome}

pub mark_parts : (labels : ℕ) (m : Mark) → good_mark labels m ≡ true → (m.mask < 2 ^ labels) × (m.worth.raised ≤ 4000) × (m.worth.origin < 4096)
mark_parts labels m e =
    let a = and_parts (ltb m.mask (2 ^ labels)) (leb m.worth.raised 4000 && ltb m.worth.origin 4096) e in
    let b = and_parts (leb m.worth.raised 4000) (ltb m.worth.origin 4096) a.1 in
    (ltb-true m.mask (2 ^ labels) a.0, leb-true m.worth.raised 4000 b.0, ltb-true m.worth.origin 4096 b.1)

pub move_parts : (n : ℕ) (m : Move) → good_move n m ≡ true → GoodOutcome n m
move_parts n m h =
    let parts = and_parts (ltb m.target n) (within 1 8 m.weight) h in
    let w = within_parts 1 8 m.weight parts.1 in
    (ltb-true m.target n parts.0, w.0, w.1)

pub record CellGood (states : ℕ) (c : List Move) : Type 0 where
  pub few : length c ≤ 8
  pub moves : all (good_move states) c ≡ true
  pub distinct : apart c ≡ true
  pub whole : none c ≡ false → total c ≡ 8

pub cell_good : (states : ℕ) (c : List Move) → good_cell states c ≡ true → CellGood states c
cell_good states [] e = record { few = omega arith; moves = refl; distinct = refl; whole = λ h. absurd (true≢false h) }
cell_good states (m ∷ ms) e =
    let p1 = and_parts (leb (length (m ∷ ms)) 8) _ e in
    let p2 = and_parts (all (good_move states) (m ∷ ms)) _ p1.1 in
    let p3 = and_parts (apart (m ∷ ms)) (eqb (total (m ∷ ms)) 8) p2.1 in
    record { few = leb-true (length (m ∷ ms)) 8 p1.0; moves = p2.0; distinct = p3.0; whole = λ _. eqb-true (total (m ∷ ms)) 8 p3.1 }

-- what a valid book has, by name
pub record Validly (b : Site) : Type 0 where
  pub some : 1 ≤ length b.marks
  pub many : length b.marks ≤ 4096
  pub labels : b.labels ≤ 24
  pub acts : 1 ≤ b.actions
  pub few : b.actions ≤ 8
  pub marks : all (good_mark b.labels) b.marks ≡ true
  pub table : length b.cells ≡ length b.marks * b.actions
  pub cells : all (good_cell (length b.marks)) b.cells ≡ true
  pub waiting : waits b.actions (length b.marks) b.cells ≡ true

pub validly : (b : Site) → valid b ≡ true → Validly b
validly b e =
    let a = and_parts _ _ e in
    let c = and_parts _ _ a.1 in
    let d = and_parts _ _ c.1 in
    let f = and_parts _ _ d.1 in
    let t = and_parts _ _ f.1 in
    let u = and_parts _ _ t.1 in
    let n = within_parts 1 4096 (length b.marks) a.0 in
    let k = within_parts 1 8 b.actions d.0 in
    record { some = n.0; many = n.1; labels = leb-true b.labels 24 c.0; acts = k.0; few = k.1; marks = f.0; table = eqb-true (length b.cells) (length b.marks * b.actions) t.0; cells = u.0; waiting = u.1 }
