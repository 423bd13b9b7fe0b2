-- The book that is written out of listed states is valid: `book_valid`. For others too: `some_cell`, a cell of outcomes is not empty.
use Rattle.std.proofs.Common.{◌≡◌, ℕ, zero, suc, ◌+◌, ◌*◌, ◌^◌, ◌<◌, ◌≤◌, true, false, not, eqb, List, [], ◌∷◌, map, length, get_or, ℤ, pos, ◌+ℤ◌, nat_abs, sym, refl, ap, ◌∙◌, ⊎_elim, add-zero, arith}
use Rattle.std.specs.List.{All, Contains}
use Rattle.std.proofs.lemmas.List.Elements.{All-contains_itself, All-head, All-tail, Contains-get_or}
use Rattle.std.proofs.lemmas.List.{length-map, get_or-map}
use Rattle.std.proofs.lemmas.List.Folds.{fold-map}
use Rattle.std.proofs.lemmas.Int.{ints}
use Rattle.std.proofs.lemmas.Bool.{cases_Bool, and_from, or_from, or_right, lt-ltb, le-leb, eq-eqb, ne_eqb, not_from_false}
use Rattle.model.specs.declared.Outcome.{Outcome}
use Rattle.model.specs.Models as models
use Rattle.model.specs.Models.{Model, Lawful}
use Rattle.model.proofs.Laws.{weight_at}
use Rattle.register.specs.Keys.{place_of}
use Rattle.words.specs.Tests.{all, none}
use Rattle.words.proofs.Tests.{all_push, all_append, all_from, all_below_from, within_from}
use Rattle.sitelayout.specs.declared.Move.{Move}
use Rattle.sitelayout.specs.Site.{taken, apart, total, good_mark, good_move, good_cell, valid}
use Rattle.writeout.specs.Book.{mark_of, move_to, cell_of, cells_below, cells_of, book_of}
use Rattle.writeout.proofs.Closed.{Closed, place_below, place_one}
use Rattle.writeout.proofs.Cells.{length-cells, cell_copied}

-- tests of lists, from their places

not_taken : (t : ℕ) (ms : List Move) (d : Move) → ((k : ℕ) → k < length ms → t ≡ (get_or ms k d).target → ⊥) → taken t ms ≡ false
not_taken t [] d h = refl
not_taken t (m ∷ ms) d h = or_from (eqb t m.target) (taken t ms) (ne_eqb t m.target (h 0 (omega arith))) (not_taken t ms d (λ k l. h (suc k) (omega arith)))

apart_from : (ms : List Move) (d : Move) → ((j k : ℕ) → j < k → k < length ms → (get_or ms j d).target ≡ (get_or ms k d).target → ⊥) → apart ms ≡ true
apart_from [] d h = refl
apart_from (m ∷ ms) d h =
    and_from (not (taken m.target ms)) (apart ms)
    (not_from_false (taken m.target ms) (not_taken m.target ms d (λ k l. h 0 (suc k) (omega arith) (omega arith))))
    (apart_from ms d (λ j k l n. h (suc j) (suc k) (omega arith) (omega arith)))

-- numbers

raised_small : (r : ℤ) → nat_abs r ≤ 2000 → nat_abs (r +ℤ pos 2000) ≤ 4000
raised_small r h = omega (arith, ints)

total_moves : (codes : List ℕ) (os : List Outcome) → total (map (move_to codes) os) ≡ models.total os
total_moves codes os = fold-map (λ n m. n + m.weight) (move_to codes) 0 os

pub some_cell : (codes : List ℕ) (os : List Outcome) → 1 ≤ length os → not (none (map (move_to codes) os)) ≡ true
some_cell codes [] h = absurd (omega arith)
some_cell codes (o ∷ os) h = refl

stay : Outcome
stay = record { target = 0; weight = 0 }

module _ (m : Model) (law : Lawful m) (codes : List ℕ) (from : Closed m codes) where
  mark_good : (c : ℕ) → good_mark m.labels (mark_of m c) ≡ true
  mark_good c =
      and_from _ _ (lt-ltb (m.mask c) (2 ^ m.labels) (law.shows.labelled c))
      (and_from _ _ (le-leb (mark_of m c).worth.raised 4000 (raised_small (m.reward c) (omega (arith, law.shows.bounded c, law.shows.modest))))
      (lt-ltb (m.site c) 4096 (law.grounds.grounded c)))

  marks_good : (cs : List ℕ) → all (good_mark m.labels) (map (mark_of m) cs) ≡ true
  marks_good [] = refl
  marks_good (c ∷ cs) = and_from (good_mark m.labels (mark_of m c)) _ (mark_good c) (marks_good cs)

  -- the outcomes of an offered action in a listed state
  module _ (c a : ℕ) (has : Contains codes c) (off : m.offered c a ≡ true) where
    at_cell : (j : ℕ) → j < length (m.outcomes c a) → get_or (cell_of m codes c a) j (move_to codes stay) ≡ move_to codes (get_or (m.outcomes c a) j stay)
    at_cell j h = get_or-map (move_to codes) (m.outcomes c a) j stay (move_to codes stay) h

    move_good : (j : ℕ) → j < length (m.outcomes c a) → good_move (length codes) (move_to codes (get_or (m.outcomes c a) j stay)) ≡ true
    move_good j h =
        let o = get_or (m.outcomes c a) j stay in
        and_from _ _
        (lt-ltb (place_of eqb o.target codes) (length codes) (place_below codes o.target (from.targets c a j stay has h)))
        (within_from 1 8 o.weight (law.moves.weighed c a j stay h) (omega (arith, weight_at (m.outcomes c a) j stay h, law.moves.whole c a off)))

    moves_good : all (good_move (length codes)) (cell_of m codes c a) ≡ true
    moves_good =
        all_from (good_move (length codes)) (cell_of m codes c a) (move_to codes stay) (λ j h.
        let l : j < length (m.outcomes c a) = omega (arith, length-map (m.outcomes c a) (move_to codes)) in
        ap (good_move (length codes)) (at_cell j l) ∙ move_good j l)

    moves_apart : apart (cell_of m codes c a) ≡ true
    moves_apart =
        apart_from (cell_of m codes c a) (move_to codes stay) (λ j k l h e.
        let size : length (cell_of m codes c a) ≡ length (m.outcomes c a) = length-map (m.outcomes c a) (move_to codes) in
        let hj : j < length (m.outcomes c a) = omega arith in
        let hk : k < length (m.outcomes c a) = omega arith in
        let places = sym (ap (λ (x : Move). x.target) (at_cell j hj)) ∙ e ∙ ap (λ (x : Move). x.target) (at_cell k hk) in
        let same : j ≡ k = law.moves.apart c a j k stay hj hk (place_one codes _ _ (from.targets c a j stay has hj) (from.targets c a k stay has hk) places) in
        absurd (omega arith))

    offered_good : good_cell (length codes) (cell_of m codes c a) ≡ true
    offered_good =
        or_right (none (cell_of m codes c a)) _
        (and_from _ _ (le-leb (length (cell_of m codes c a)) 8 (omega (arith, length-map (m.outcomes c a) (move_to codes), law.moves.few c a)))
        (and_from _ _ moves_good
        (and_from _ _ moves_apart
        (eq-eqb (total (cell_of m codes c a)) 8 (total_moves codes (m.outcomes c a) ∙ law.moves.whole c a off)))))

  cell_good : (c a : ℕ) → Contains codes c → good_cell (length codes) (cell_of m codes c a) ≡ true
  cell_good c a has =
      ⊎_elim
      (λ (t : m.offered c a ≡ true). offered_good c a has t)
      (λ (f : m.offered c a ≡ false). ap (λ os. good_cell (length codes) (map (move_to codes) os)) (law.moves.silent c a f))
      (cases_Bool (m.offered c a))

  below_good : (c n : ℕ) → Contains codes c → all (good_cell (length codes)) (cells_below m codes c n) ≡ true
  below_good c zero has = refl
  below_good c (suc n) has = all_push (good_cell (length codes)) (cells_below m codes c n) (cell_of m codes c n) (below_good c n has) (cell_good c n has)

  cells_good : (cs : List ℕ) → All (Contains codes) cs → all (good_cell (length codes)) (cells_of m codes cs) ≡ true
  cells_good [] has = refl
  cells_good (c ∷ cs) has = all_append (good_cell (length codes)) (cells_below m codes c m.actions) (cells_of m codes cs) (below_good c m.actions (All-head (Contains codes) c cs has)) (cells_good cs (All-tail (Contains codes) c cs has))

  -- action 0 is offered in every listed state
  waits_at : (s : ℕ) → s < length codes → not (none (get_or (cells_of m codes codes) (s * m.actions) [])) ≡ true
  waits_at s h =
      let c = get_or codes s 0 in
      let at : get_or (cells_of m codes codes) (s * m.actions) [] ≡ cell_of m codes (get_or codes s 0) 0 =
      ap (λ k. get_or (cells_of m codes codes) k []) (sym (add-zero (s * m.actions))) ∙ cell_copied m codes s 0 h law.moves.acts.0 in
      ap (λ (x : List Move). not (none x)) at
      ∙ some_cell codes (m.outcomes c 0) (law.moves.some c 0 (law.moves.waits c (from.states c (Contains-get_or codes s 0 h))))

  pub book_valid : valid (book_of m codes) ≡ true
  book_valid =
      let size : length (map (mark_of m) codes) ≡ length codes = length-map codes (mark_of m) in
      and_from _ _ (within_from 1 4096 (length (map (mark_of m) codes)) (omega (arith, from.some)) (omega (arith, from.few)))
      (and_from _ _ (le-leb m.labels 24 law.shows.narrow)
      (and_from _ _ (within_from 1 8 m.actions law.moves.acts.0 law.moves.acts.1)
      (and_from _ _ (marks_good codes)
      (and_from _ _ (eq-eqb (length (cells_of m codes codes)) (length (map (mark_of m) codes) * m.actions) (length-cells m codes codes ∙ ap (λ n. n * m.actions) (sym size)))
      (and_from _ _ (ap (λ n. all (good_cell n) (cells_of m codes codes)) size ∙ cells_good codes (All-contains_itself codes))
      (all_below_from (length (map (mark_of m) codes)) (λ s. not (none (get_or (cells_of m codes codes) (s * m.actions) []))) (λ s h. waits_at s (omega arith))))))))
