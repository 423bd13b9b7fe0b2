-- The book that is written out says of each listed state what the model says: `book_copies`. For others too: `book_cell`.
use Rattle.std.proofs.Common.{◌≡◌, ℕ, suc, ◌+◌, ◌*◌, ◌<◌, ◌≤◌, true, false, not, ◌&&◌, ltb, List, [], ◌∷◌, map, length, get_or, ℤ, pos, ◌+ℤ◌, ◌-ℤ◌, nat_abs, sym, refl, ap, ◌∙◌, ⊎_elim, arith}
use Rattle.std.specs.List.{Contains}
use Rattle.std.proofs.lemmas.List.Elements.{Contains-get_or}
use Rattle.std.proofs.lemmas.List.{length-map, get_or-map}
use Rattle.std.proofs.lemmas.Int.{ints}
use Rattle.std.proofs.lemmas.Bool.{cases_Bool, cases_lt, and_from, and_right, lt-ltb, le-ltb, cond-true, cond-false}
use Rattle.model.specs.declared.Outcome.{Outcome}
use Rattle.model.specs.Models.{Model, Lawful}
use Rattle.words.specs.Tests.{none}
use Rattle.sitelayout.specs.declared.Mark.{Mark}
use Rattle.sitelayout.specs.declared.Move.{Move}
use Rattle.sitemodel.specs.Meaning.{blank, cell_at, outcome_of}
use Rattle.writeout.specs.Book.{mark_of, move_to, cell_of, cells_of, book_of}
use Rattle.writeout.specs.Copies.{outcome_in_model, Copies}
use Rattle.writeout.proofs.Closed.{Closed, place_code}
use Rattle.writeout.proofs.Cells.{cell_copied}
use Rattle.writeout.proofs.Validity.{some_cell, book_valid}

-- a reward that was raised and lowered again
reward_back : (r : ℤ) → nat_abs r ≤ 2000 → pos (nat_abs (r +ℤ pos 2000)) -ℤ pos 2000 ≡ r
reward_back r h = omega (arith, ints)

-- outcomes that were put at places and read at them again
moves_back : (codes : List ℕ) (os : List Outcome) → ((j : ℕ) (d : Outcome) → j < length os → Contains codes (get_or os j d).target) → map (outcome_in_model codes) (map outcome_of (map (move_to codes) os)) ≡ os
moves_back codes [] has = refl
moves_back codes (o ∷ os) has =
    let here : outcome_in_model codes (outcome_of (move_to codes o)) ≡ o = ap (λ (t : ℕ). record { target = t; weight = o.weight }) (place_code codes o.target (has 0 o (omega arith))) in
    let rest = moves_back codes os (λ j d h. has (suc j) d (omega arith)) in
    cc

module _ (m : Model) (law : Lawful m) (codes : List ℕ) (from : Closed m codes) where
  size : length (map (mark_of m) codes) ≡ length codes
  size = length-map codes (mark_of m)

  mark_copied : (i : ℕ) → i < length codes → get_or (map (mark_of m) codes) i blank ≡ mark_of m (get_or codes i 0)
  mark_copied i h = get_or-map (mark_of m) codes i 0 blank h

  -- no action from the count of actions on has an outcome
  past_none : (c a : ℕ) → m.actions ≤ a → m.outcomes c a ≡ []
  past_none c a h =
      ⊎_elim
      (λ (t : m.offered c a ≡ true). absurd (omega (arith, (law.moves.offers c a t).1)))
      (λ (f : m.offered c a ≡ false). law.moves.silent c a f)
      (cases_Bool (m.offered c a))

  -- the cell of an action in a listed state
  pub book_cell : (i a : ℕ) → i < length codes → cell_at (book_of m codes) i a ≡ cell_of m codes (get_or codes i 0) a
  book_cell i a h =
      ⊎_elim
      (λ (l : a < m.actions).
      cond-true (ltb i (length (map (mark_of m) codes)) && ltb a m.actions) (get_or (cells_of m codes codes) (i * m.actions + a) []) []
      (and_from _ _ (lt-ltb i (length (map (mark_of m) codes)) (omega (arith, size))) (lt-ltb a m.actions l))
      ∙ cell_copied m codes i a h l)
      (λ (l : m.actions ≤ a).
      cond-false (ltb i (length (map (mark_of m) codes)) && ltb a m.actions) (get_or (cells_of m codes codes) (i * m.actions + a) []) []
      (and_right (ltb i (length (map (mark_of m) codes))) (ltb a m.actions) (le-ltb a m.actions l))
      ∙ ap (λ os. map (move_to codes) os) (sym (past_none (get_or codes i 0) a l)))
      (cases_lt a m.actions)

  cell_offers : (c a : ℕ) → not (none (cell_of m codes c a)) ≡ m.offered c a
  cell_offers c a =
      ⊎_elim
      (λ (t : m.offered c a ≡ true). some_cell codes (m.outcomes c a) (law.moves.some c a t) ∙ sym t)
      (λ (f : m.offered c a ≡ false). ap (λ os. not (none (map (move_to codes) os))) (law.moves.silent c a f) ∙ sym f)
      (cases_Bool (m.offered c a))

  pub book_copies : Copies m codes (book_of m codes)
  book_copies = record {
    sound = book_valid m law codes from;
    states = size;
    labels = refl;
    actions = refl;
    start = from.first;
    masks = λ i h. ap (λ (k : Mark). k.mask) (mark_copied i h);
    rewards = λ i h. ap (λ (k : Mark). pos k.worth.raised -ℤ pos 2000) (mark_copied i h) ∙ reward_back (m.reward (get_or codes i 0)) (omega (arith, law.shows.bounded (get_or codes i 0), law.shows.modest));
    origins = λ i h. ap (λ (k : Mark). k.worth.origin) (mark_copied i h);
    offers = λ i a h. ap (λ (c : List Move). not (none c)) (book_cell i a h) ∙ cell_offers (get_or codes i 0) a;
    moves = λ i a h. ap (λ c. map (outcome_in_model codes) (map outcome_of c)) (book_cell i a h) ∙ moves_back codes (m.outcomes (get_or codes i 0) a) (λ j d l. from.targets (get_or codes i 0) a j d (Contains-get_or codes i 0 h) l);
  }
