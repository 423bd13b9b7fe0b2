-- Books laid one after another: the pile of the first so many, none of them refused; the first refusal; and no room for a fourth.
use Rattle.std.proofs.Common.{◌≡◌, ℕ, zero, suc, ◌+◌, ◌*◌, ◌<◌, ◌≤◌, List, [], ◌∷◌, length, get_or, take, Some, None, Option, Err, Result, IfErr, ◌⊎◌, inl, inr, MatchOption, Bor, sym, refl, ap, ◌∙◌, subst, arith, below_more}
use Rattle.std.proofs.lemmas.Bool.{cond-true, cases_lt}
use Rattle.std.proofs.lemmas.List.{take_all}
use Rattle.std.proofs.lemmas.Option.{slice_get_past, slice_get_read, slice_get-get_or, slice_get_within}
use Rattle.std.specs.List.{slice_get}
use Rattle.std.specs.Option.{option_copied, option_map}
use Rattle.std.specs.Slice.{IsItemAt}
use Rattle.model.specs.Models.{Model, Lawful, sizes_of}
use Rattle.refusal.specs.declared.Refusal.{Refusal}
use Rattle.wishbook.specs.declared.book.WishBook.{WishBook}
use Rattle.wishbook.specs.Book.{Book}
use Rattle.wishbook.specs.Contents.{contents}
use Rattle.layermodel.proofs.Lawfulness.{room}
use Rattle.layermodel.specs.Layered.{refusal, fits, layered, over}
use Rattle.layermodel.proofs.Lawfulness.{fit_is}
use Rattle.pilemodel.specs.Piles.{wishes, floor_over, piled}
use Rattle.pilemodel.specs.Raised.{floor_in}
use Rattle.pilemodel.proofs.Pushing.{over_in}
use Rattle.pile.specs.Stacks.{floor_refusal, books_as_floors, floor_at, refusal_at, AllLaid, IsFirstRefused}
use Rattle.pile.specs.declared.laying.Unlaid.{Unlaid}

-- what is copied from a place of a list
pub item_copied : {X : Type 0} (xs : List X) (i : ℕ) (r : Option (Bor X)) → IsItemAt xs i r → option_copied r ≡ slice_get xs i
item_copied xs i None at = sym (slice_get_past xs i at.3)
item_copied xs i (Some x) at = sym (slice_get_read xs (length xs) i x.now refl at.3.0 at.1)

-- why a layer's book is refused, by the model below and the book
pub told : (n k : Model) (o p : Option WishBook) (r : Option Refusal) → n ≡ k → o ≡ p → MatchOption o (r ≡ None) (λ b. r ≡ refusal (sizes_of n) (contents b)) → r ≡ floor_refusal k (floor_in p)
told n k o p r is has said = of_book o said ∙ (λ i. floor_refusal (is i) (floor_in (has i)))
  where
    of_book : (o : Option WishBook) → MatchOption o (r ≡ None) (λ b. r ≡ refusal (sizes_of n) (contents b)) → r ≡ floor_refusal n (floor_in o)
    of_book None said = said
    of_book (Some b) said = said

-- one book more
piled_next : (m : Model) (ws : List WishBook) (k : ℕ) → floor_over (piled m (books_as_floors (take k ws))) (floor_at ws k) ≡ piled m (books_as_floors (take (suc k) ws))
piled_next m [] zero = refl
piled_next m [] (suc k) = refl
piled_next m (w ∷ ws) zero = refl
piled_next m (w ∷ ws) (suc k) = piled_next (floor_over m (wishes (contents w))) ws k

piled_more : (m : Model) (ws : List WishBook) (k : ℕ) → floor_over (piled m (books_as_floors (take k ws))) (floor_at ws k) ≡ piled m (books_as_floors (take (k + 1) ws))
piled_more m ws k = let next : suc k ≡ k + 1 = omega arith in piled_next m ws k ∙ ap (λ j. piled m (books_as_floors (take j ws))) next

pub over_laid : (m : Model) (b : Book) → refusal (sizes_of m) b ≡ None → (over m (Some b)).span ≡ m.span * 65536
over_laid m b e = ap (λ n. n.span) (cond-true (fits m b) (layered m b) m (fit_is m b None (sym e)))

module _ (m : Model) (ws : List WishBook) where
  -- the pile of the first k books
  abbrev first : ℕ → Model
  first k = piled m (books_as_floors (take k ws))

  -- n is the pile of the first k books, and none of them is refused
  pub record Stands (k : ℕ) (n : Model) : Type 0 where
    pub pile : n ≡ first k
    pub laid : (j : ℕ) → j < k → refusal_at m ws j ≡ None

  said_at : (k : ℕ) (n : Model) (r : Option Refusal) → Stands k n → floor_refusal n (floor_at ws k) ≡ r → refusal_at m ws k ≡ r
  said_at k n r s e = ap (λ x. floor_refusal x (floor_at ws k)) (sym s.pile) ∙ e

  pub none_yet : (n : Model) → n ≡ m → Stands 0 n
  none_yet n is = record { pile = is; laid = λ j l. absurd (omega arith) }

  pub one_more : (k : ℕ) (n below : Model) (o : Option WishBook) → Stands k n → below ≡ n → o ≡ slice_get ws k → floor_refusal n (floor_at ws k) ≡ None → Stands (k + 1) (over below (option_map contents o))
  one_more k n below o s is has e = record {
    pile = sym (over_in below o) ∙ (λ i. floor_over ((is ∙ s.pile) i) (floor_in (has i))) ∙ piled_more m ws k;
    laid = below_more _ _ s.laid (said_at k n None s e);
  }

  pub refused_at : (k : ℕ) (n : Model) (w : WishBook) (r : Refusal) → Stands k n → slice_get ws k ≡ Some w → refusal (sizes_of n) (contents w) ≡ Some r → IsFirstRefused m ws (record { floor = k; refusal = r })
  refused_at k n w r s here said = record { before = s.laid; refused = said_at k n (Some r) s (ap (λ o. floor_refusal n (floor_in o)) here ∙ said) }

  pub refused_first : {X : Type 0} (k : ℕ) (n : Model) (e : Unlaid) (r : Result X Unlaid) → Stands k n → e.floor ≡ k → floor_refusal n (floor_at ws k) ≡ Some e.refusal → r ≡ Err e → IfErr r (IsFirstRefused m ws)
  refused_first k n e r s is said back =
      subst (λ r. IfErr r (IsFirstRefused m ws)) (sym back) (record {
        before = λ j l. s.laid j (omega arith);
        refused = ap (refusal_at m ws) is ∙ said_at k n (Some e.refusal) s said;
      })

  grows : (k : ℕ) (w : WishBook) → slice_get ws k ≡ Some w → refusal_at m ws k ≡ None → (first (k + 1)).span ≡ (first k).span * 65536
  grows k w here e =
      ap (λ n. n.span) (sym (piled_more m ws k) ∙ ap (λ o. floor_over (first k) (floor_in o)) here)
      ∙ over_laid (first k) (contents w) (ap (λ o. floor_refusal (first k) (floor_in o)) (sym here) ∙ e)

  -- a fourth book is refused: the span has passed 2^44
  pub few_books : Lawful m → (n : Model) (w : WishBook) → Stands 3 n → slice_get ws 3 ≡ Some w → refusal (sizes_of n) (contents w) ≡ None → ⊥
  few_books law n w s here e =
      let inside = slice_get_within ws 3 w here in
      let fit = (room n (contents w) (fit_is n (contents w) None (sym e))).span in
      let grown = λ (k : ℕ) (l : k < 3). grows k (get_or ws k w) (slice_get-get_or ws k w (omega arith)) (s.laid k l) in
      omega (arith, law.states.within m.start law.states.starts, grown 0 (omega arith), grown 1 (omega arith), grown 2 (omega arith), ap (λ x. x.span) s.pile, fit)

  pub all_laid : (n : Model) → Stands 3 n → length ws ≤ 3 → AllLaid m ws
  all_laid n s few k = by_place (cases_lt k 3)
    where
      by_place : (k < 3) ⊎ (3 ≤ k) → refusal_at m ws k ≡ None
      by_place (inl l) = s.laid k l
      by_place (inr past) = ap (λ o. floor_refusal (first k) (floor_in o)) (slice_get_past ws k (omega arith))

  pub whole : (n : Model) → Stands 3 n → length ws ≤ 3 → n ≡ piled m (books_as_floors ws)
  whole n s few = s.pile ∙ ap (λ ws. piled m (books_as_floors ws)) (take_all 3 ws few)
