-- The cells of a book that is written out: how many there are, and which stands where. For others: `length-below`,
-- `length-cells` and `cell_copied`.
use Rattle.std.proofs.Common.{◌≡◌, ℕ, zero, suc, ◌+◌, ◌-◌, ◌*◌, ◌<◌, ◌≤◌, List, [], ◌∷◌, length, get_or, refl, ap, ◌∙◌, ⊎_elim, arith}
use Rattle.std.proofs.lemmas.List.{length-append, length_push, get_or_append_left, get_or-append_right, get_or_push}
use Rattle.std.proofs.lemmas.Bool.{cases_lt}
use Rattle.model.specs.Models.{Model}
use Rattle.writeout.specs.Book.{cell_of, cells_below, cells_of}

module _ (m : Model) (codes : List ℕ) where
  pub length-below : (c n : ℕ) → length (cells_below m codes c n) ≡ n
  length-below c zero = refl
  length-below c (suc n) = omega (arith, length_push (cells_below m codes c n) (cell_of m codes c n), length-below c n)

  below_at : (c n a : ℕ) → a < n → get_or (cells_below m codes c n) a [] ≡ cell_of m codes c a
  below_at c zero a h = absurd (omega arith)
  below_at c (suc n) a h =
      ⊎_elim
      (λ (l : a < n). get_or_append_left (cells_below m codes c n) (cell_of m codes c n ∷ []) [] a (omega (arith, length-below c n)) ∙ below_at c n a l)
      (λ (l : n ≤ a).
      let last : n ≡ a = omega arith in
      get_or_push (cells_below m codes c n) (cell_of m codes c n) [] a (length-below c n ∙ last) ∙ ap (cell_of m codes c) last)
      (cases_lt a n)

  pub length-cells : (cs : List ℕ) → length (cells_of m codes cs) ≡ length cs * m.actions
  length-cells [] = omega arith
  length-cells (c ∷ cs) = omega (arith, length-append (cells_below m codes c m.actions) (cells_of m codes cs), length-below c m.actions, length-cells cs)

  row_at : (cs : List ℕ) (s a : ℕ) → s < length cs → a < m.actions → get_or (cells_of m codes cs) (s * m.actions + a) [] ≡ cell_of m codes (get_or cs s 0) a
  row_at [] s a h l = absurd (omega arith)
  row_at (c ∷ cs) zero a h l =
      let on : 0 * m.actions + a ≡ a = omega arith in
      ap (λ k. get_or (cells_of m codes (c ∷ cs)) k []) on
      ∙ get_or_append_left (cells_below m codes c m.actions) (cells_of m codes cs) [] a (omega (arith, length-below c m.actions))
      ∙ below_at c m.actions a l
  row_at (c ∷ cs) (suc s) a h l =
      let on : suc s * m.actions + a - m.actions ≡ s * m.actions + a = omega arith in
      get_or-append_right (cells_below m codes c m.actions) (cells_of m codes cs) m.actions (suc s * m.actions + a) [] (length-below c m.actions) (omega arith)
      ∙ ap (λ k. get_or (cells_of m codes cs) k []) on
      ∙ row_at cs s a (omega arith) l

  -- the outcomes of an action in a listed state stand in its row
  pub cell_copied : (s a : ℕ) → s < length codes → a < m.actions → get_or (cells_of m codes codes) (s * m.actions + a) [] ≡ cell_of m codes (get_or codes s 0) a
  cell_copied s a h l = row_at codes s a h l
