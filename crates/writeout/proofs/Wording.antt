-- The words of a book's parts, one part after another, and how many they are.
use Rattle.std.proofs.Common.{◌≡◌, ℕ, zero, suc, ◌+◌, ◌*◌, ◌/◌, ◌%◌, ◌^◌, ◌<◌, ◌≤◌, List, [], ◌∷◌, ◌++◌, map, length, sym, refl, ap, ◌∙◌, append_assoc, append-nil, arith}
use Rattle.std.proofs.lemmas.List.{length-append, length-map}
use Rattle.model.specs.Models.{Model, Lawful}
use Rattle.sitelayout.specs.declared.Move.{Move}
use Rattle.sitelayout.specs.Layout.{mark_words, move_words, cell_word, cell_words, site_words}
use Rattle.sitelayout.specs.OneWord.{word_of_entry}
use Rattle.sitelayout.proofs.Account.{cells-append}
use Rattle.sitelayout.proofs.Way.{length-marks, length-moves}
use Rattle.writeout.specs.Book.{mark_of, move_to, cell_of, cells_below, cells_of, book_of}
use Rattle.writeout.proofs.Cells.{length-below, length-cells}

-- an action that is offered
pub cell_said : (actions k : ℕ) (ms : List Move) → 0 < length ms → cell_word actions k ms ≡ word_of_entry (k / actions) (k % actions) (length ms) ∷ move_words ms
cell_said actions k [] l = absurd (omega arith)
cell_said actions k (m ∷ ms) l = refl

-- one action more in the state at a place
pub below_more : (m : Model) (codes : List ℕ) (c place a : ℕ) → cell_words m.actions (place * m.actions) (cells_below m codes c (a + 1)) ≡ cell_words m.actions (place * m.actions) (cells_below m codes c a) ++ cell_word m.actions (place * m.actions + a) (cell_of m codes c a)
below_more m codes c place a =
    let one : a + 1 ≡ suc a = omega arith in
    ap (λ n. cell_words m.actions (place * m.actions) (cells_below m codes c n)) one
    ∙ cells-append m.actions (place * m.actions) (cells_below m codes c a) (cell_of m codes c a ∷ [])
    ∙ ap (λ n. cell_words m.actions (place * m.actions) (cells_below m codes c a) ++ (cell_word m.actions (place * m.actions + n) (cell_of m codes c a) ++ [])) (length-below m codes c a)
    ∙ ap (λ l. cell_words m.actions (place * m.actions) (cells_below m codes c a) ++ l) (append-nil (cell_word m.actions (place * m.actions + a) (cell_of m codes c a)))

cells-push : (m : Model) (codes xs : List ℕ) (c : ℕ) → cells_of m codes (xs ++ (c ∷ [])) ≡ cells_of m codes xs ++ cells_below m codes c m.actions
cells-push m codes [] c = append-nil (cells_below m codes c m.actions)
cells-push m codes (x ∷ xs) c = ap (λ l. cells_below m codes x m.actions ++ l) (cells-push m codes xs c) ∙ sym (append_assoc (cells_below m codes x m.actions) (cells_of m codes xs) (cells_below m codes c m.actions))

-- one state more
pub states_more : (m : Model) (codes xs : List ℕ) (c n : ℕ) → length xs ≡ n → cell_words m.actions 0 (cells_of m codes (xs ++ (c ∷ []))) ≡ cell_words m.actions 0 (cells_of m codes xs) ++ cell_words m.actions (n * m.actions) (cells_below m codes c m.actions)
states_more m codes xs c n e =
    let at : 0 + length (cells_of m codes xs) ≡ n * m.actions = omega (arith, length-cells m codes xs, ap (λ k. k * m.actions) e) in
    ap (cell_words m.actions 0) (cells-push m codes xs c)
    ∙ cells-append m.actions 0 (cells_of m codes xs) (cells_below m codes c m.actions)
    ∙ ap (λ k. cell_words m.actions 0 (cells_of m codes xs) ++ cell_words m.actions k (cells_below m codes c m.actions)) at

cell-length : (actions k : ℕ) (ms : List Move) → length (cell_word actions k ms) ≤ length ms + 1
cell-length actions k [] = omega arith
cell-length actions k (m ∷ ms) = omega (arith, length-moves ms)

below_small : (m : Model) → Lawful m → (codes : List ℕ) (c k n : ℕ) → length (cell_words m.actions k (cells_below m codes c n)) ≤ 9 * n
below_small m law codes c k zero = omega arith
below_small m law codes c k (suc n) =
    let j = k + length (cells_below m codes c n) in
    omega (
      arith,
      ap length (cells-append m.actions k (cells_below m codes c n) (cell_of m codes c n ∷ [])),
      length-append (cell_words m.actions k (cells_below m codes c n)) (cell_words m.actions (k + length (cells_below m codes c n)) (cell_of m codes c n ∷ [])),
      ap length (append-nil (cell_word m.actions (k + length (cells_below m codes c n)) (cell_of m codes c n))),
      cell-length m.actions (k + length (cells_below m codes c n)) (cell_of m codes c n),
      length-map (m.outcomes c n) (move_to codes),
      law.moves.few c n,
      below_small m law codes c k n,
    )

states_small : (m : Model) → Lawful m → (codes cs : List ℕ) (k : ℕ) → length (cell_words m.actions k (cells_of m codes cs)) ≤ 72 * length cs
states_small m law codes [] k = omega arith
states_small m law codes (c ∷ cs) k =
    omega (
      arith,
      ap length (cells-append m.actions k (cells_below m codes c m.actions) (cells_of m codes cs)),
      length-append (cell_words m.actions k (cells_below m codes c m.actions)) (cell_words m.actions (k + length (cells_below m codes c m.actions)) (cells_of m codes cs)),
      below_small m law codes c k m.actions,
      law.moves.acts,
      states_small m law codes cs (k + length (cells_below m codes c m.actions)),
    )

-- a book has no more words than one of 4,096 states with 8 actions and 8 outcomes each
pub book_most : (m : Model) → Lawful m → (codes : List ℕ) → length codes ≤ 4096 → length (site_words (book_of m codes)) ≤ 303105
book_most m law codes few =
    omega (
      arith,
      length-append (mark_words (map (mark_of m) codes)) (cell_words m.actions 0 (cells_of m codes codes)),
      length-marks (map (mark_of m) codes),
      length-map codes (mark_of m),
      states_small m law codes codes 0,
    )

-- so few words that their number fits the end word
pub book_small : (m : Model) → Lawful m → (codes : List ℕ) → length codes ≤ 4096 → length (site_words (book_of m codes)) < 2 ^ 28
book_small m law codes few = omega (arith, book_most m law codes few)
