-- The refusals of the site book's layout are right.
use Rattle.std.proofs.Common.{◌≡◌, ℕ, zero, suc, ◌+◌, ◌-◌, ◌*◌, ◌^◌, ◌<◌, ◌≤◌, true, false, cond, not, List, [], ◌∷◌, ◌++◌, length, get_or, replicate, append_assoc, append-nil, pow_mono, Some, None, sym, refl, ap, ◌∙◌, subst, arith, rules}
use Rattle.words.specs.Words.{kind}
use Rattle.words.specs.Format.{more, ends}
use Rattle.std.proofs.lemmas.Bool.{true≢false}
use Rattle.refusal.specs.declared.Refusal.TheVariants.{NoWait}
use Rattle.words.specs.Refusing.{word_tests, book_tests, first_not_passed, RefusesRightly}
use Rattle.words.specs.Tests.{all, all_below, none}
use Rattle.words.proofs.Encoding.{Passes, passes_append}
use Rattle.words.proofs.Refusing.{refused, why_not, refuses_rightly}
use Rattle.sitelayout.specs.declared.Head.{Head}
use Rattle.sitelayout.specs.declared.Mark.{Mark}
use Rattle.sitelayout.specs.declared.Move.{Move}
use Rattle.sitelayout.specs.OneWord.{word_of_mask}
use Rattle.sitelayout.specs.Site.{good_cell, waits}
use Rattle.sitelayout.specs.Layout.{mark_words, move_words, cell_words, Draft, fresh, marking, listing, moving, padded, read_word, book_of, whole_book, site_format, head_words, open_word, written, GoodMarks, Good, ends_offered}
use Rattle.sitelayout.specs.WordTests.{may_end, passes, closes}
use Rattle.sitelayout.proofs.Account.{word_kept, choice}
use Rattle.sitelayout.proofs.Way.{moves_lead, entry_step, mask_step, marked_more, marked_all, states_lead, way_cells}

tested : (d : Draft) (w : ℕ) → Good d → refused (read_word d w) ≡ first_not_passed word_tests (passes d w)
unfolding read_word
tested fresh w g = search rules
tested (marking h ms None) w g = search rules
tested (marking h ms (Some m)) w g = search rules
tested (listing h ms cs) w g = search rules
tested (moving h ms cs mv zero) w g = search rules
tested (moving h ms cs mv (suc due)) w g = search rules

ends_where : (d : Draft) (w : ℕ) → Good d → read_word d w ≡ ends → (may_end d ≡ true) × (kind w ≡ 15)
unfolding read_word
ends_where fresh w g e = search rules
ends_where (marking h ms None) w g e = search rules
ends_where (marking h ms (Some m)) w g e = search rules
ends_where (listing h ms cs) w g e = search rules
ends_where (moving h ms cs mv zero) w g e = search rules
ends_where (moving h ms cs mv (suc due)) w g e = search rules

end_reads : (d : Draft) (w : ℕ) → Good d → may_end d ≡ true → kind w ≡ 15 → read_word d w ≡ ends
unfolding read_word
end_reads fresh w g e = search rules
end_reads (marking h ms o) w g e = search rules
end_reads (listing h ms cs) w g e = search rules
end_reads (moving h ms cs mv due) w g e = search rules

cell_padded : (cs : List (List Move)) (n k : ℕ) → get_or (cs ++ replicate n []) k [] ≡ get_or cs k []
cell_padded [] zero k = refl
cell_padded [] (suc n) zero = refl
cell_padded [] (suc n) (suc k) = cell_padded [] n k
cell_padded (c ∷ cs) n zero = refl
cell_padded (c ∷ cs) n (suc k) = cell_padded cs n k

-- filling up offers nothing
waits_padded : (actions states n : ℕ) (cs : List (List Move)) → waits actions states (padded n cs) ≡ waits actions states cs
waits_padded actions states n cs = λ i. all_below states (λ s. not (none (cell_padded cs (n - length cs) (s * actions) i)))

judged : (d : Draft) → Good d → may_end d ≡ true → why_not (whole_book d) ≡ first_not_passed book_tests (closes d)
unfolding whole_book
judged fresh g e = search rules
judged (marking h ms o) g e = search rules
judged (listing h ms cs) g e =
    ap (λ b. why_not (choice b (book_of h ms cs))) (waits_padded h.actions h.states (h.states * h.actions) cs) ∙ elim (waits h.actions h.states cs) as (λ b. why_not (choice b (book_of h ms cs)) ≡ cond (not b) (Some NoWait) None) [ true ↦ refl | false ↦ refl ]
judged (moving h ms cs mv due) g e = search rules

-- the words of a draft lead to it

empty_end : (k : ℕ) (cs : List (List Move)) → ends_offered (cs ++ replicate (suc k) []) ≡ false
empty_end zero [] = refl
empty_end (suc k) [] = empty_end k []
empty_end k (c ∷ []) = empty_end k []
empty_end k (c ∷ d ∷ cs) = empty_end k (d ∷ cs)

-- a table that ends with an entry is no filled up one
unpadded : (fs cs : List (List Move)) → padded (length cs) fs ≡ cs → ends_offered cs ≡ true → fs ≡ cs
unpadded fs cs full ended = by (length cs - length fs) refl
  where
    by : (n : ℕ) → length cs - length fs ≡ n → fs ≡ cs
    by zero e = sym (append-nil fs) ∙ ap (λ n. fs ++ replicate n []) (sym e) ∙ full
    by (suc k) e = absurd (true≢false (sym ended ∙ ap ends_offered (sym full) ∙ ap (λ n. ends_offered (fs ++ replicate n [])) e ∙ empty_end k fs))

module _ (h : Head) (ms : List Mark) (g : GoodMarks h ms) where
  mask_due : length ms < h.states → Passes site_format fresh (head_words h ∷ mark_words ms) (marking h ms None)
  mask_due few = subst (Passes site_format fresh (head_words h ∷ mark_words ms)) (marked_more h g.0 ms few) (states_lead h g.0 ms g.1 (omega arith))

  entries_lead : (cs : List (List Move)) → length ms ≡ h.states → all (good_cell h.states) cs ≡ true → length cs ≤ h.states * h.actions
      → (fs : List (List Move)) × (Passes site_format fresh (head_words h ∷ (mark_words ms ++ cell_words h.actions 0 cs)) (listing h ms fs) × ((length fs ≤ length cs) × (padded (length cs) fs ≡ cs)))
  entries_lead cs long each few =
      let table = way_cells h g.0 ms 0 [] [] cs cs refl refl refl (omega arith) each few in (
        table.0,
        (
          passes_append site_format (head_words h ∷ mark_words ms) (cell_words h.actions 0 cs) fresh (listing h ms []) (listing h ms table.0)
              (subst (Passes site_format fresh (head_words h ∷ mark_words ms)) (marked_all h g.0 ms long) (states_lead h g.0 ms g.1 (omega arith)))
              table.1.0,
          table.1.1,
        ),
      )

leads : (d : Draft) → Good d → Passes site_format fresh (written d) d
leads fresh g = refl
leads (marking h ms None) g = mask_due h ms g.0 g.1.0
leads (marking h ms (Some m)) g =
    let top : 2 ^ h.labels ≤ 2 ^ 24 = pow_mono g.0.0.2 in
    passes_append site_format (head_words h ∷ mark_words ms) (word_of_mask m ∷ []) fresh (marking h ms None) (marking h ms (Some m))
    (mask_due h ms g.0 g.1.0)
    (marking h ms (Some m), (mask_step h g.0.0 ms m g.1.1, (omega (arith, g.1.1, top), refl)))
leads (listing h ms cs) g =
    let way = entries_lead h ms g.0 cs g.1.0 g.1.1.0 g.1.1.1.0 in
    subst (λ fs. Passes site_format fresh (written (listing h ms cs)) (listing h ms fs)) (unpadded way.0 cs way.1.1.1 g.1.1.1.1) way.1.0
leads (moving h ms cs mv due) g =
    let way = entries_lead h ms g.0 cs g.1.0 g.1.1.0 (omega (arith, g.1.1.1.0)) in
    let opens = entry_step h g.0.0 ms (length cs) way.0 (length mv + suc due) way.1.1.0 g.1.1.1.0 (omega arith) g.1.1.1.1.1.1 in
    let due_now : length mv + suc due - 1 ≡ length mv + due = omega arith in
    let opened : read_word (listing h ms way.0) (open_word h (length cs) (length mv + suc due)) ≡ more (moving h ms cs [] (length mv + due)) =
    opens.0 ∙ (λ i. more (moving h ms (way.1.1.1 i) [] (due_now i))) in
    subst (λ ws. Passes site_format fresh (head_words h ∷ ws) (moving h ms cs mv due)) (append_assoc (mark_words ms) (cell_words h.actions 0 cs) (open_word h (length cs) (length mv + suc due) ∷ move_words mv))
    (passes_append site_format (head_words h ∷ (mark_words ms ++ cell_words h.actions 0 cs)) (open_word h (length cs) (length mv + suc due) ∷ move_words mv) fresh (listing h ms way.0) (moving h ms cs mv due)
    way.1.0
    (moving h ms cs [] (length mv + due), (opened, (opens.1, moves_lead h g.0.0 ms cs [] mv due g.1.1.1.1.0 g.1.1.1.1.1.0))))

-- the refusals of the site book's layout are right
pub site_refuses : RefusesRightly site_format Good written may_end passes closes
site_refuses = refuses_rightly site_format Good written (λ s t w. word_kept s t w) tt refl leads may_end passes closes tested ends_where end_reads judged
