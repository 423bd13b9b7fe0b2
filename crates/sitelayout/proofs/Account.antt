-- Whatever is accepted is the encoding of the site book that was read: the words read so far are those of the draft. For
-- others: `word_kept`, that each word keeps what is known of a draft; `end_word_reads`, that only an end word ends;
-- `whole_book_is` and `book_kept` of the book at the end; `marks-append`, `moves-append` and `cells-append` of words; `padded-length` and the like, and `either_way` of a test on two numbers.
use Rattle.std.proofs.Common.{◌≡◌, ℕ, zero, suc, ◌+◌, ◌-◌, ◌*◌, ◌/◌, ◌%◌, ◌^◌, ◌≤◌, Bool, true, false, cond, not, ◌&&◌, eqb, ltb, leb, List, [], ◌∷◌, ◌++◌, length, replicate, Some, None, Ok, Err, Result, sym, refl, ap, ◌∙◌, subst, inl, inr, append_assoc, append-nil, zero-add, arith, rules, length-append}
use lib.ListN.{length-replicate}
use Rattle.std.proofs.lemmas.Nat.{div-mul-add, mod-mul-add, mul-add-lt}
use Rattle.std.proofs.lemmas.List.{length_push}
use Rattle.std.proofs.lemmas.Bool.{and_parts, and_from, or_right, or_parts, or_from, cases_eq, ne_eqb, eqb-true, eq-eqb, ltb-true, ltb-false, lt-ltb, leb-true, le-leb, cases_Bool, not-true, not_from_false}
use Rattle.refusal.specs.declared.Refusal.{Refusal}
use Rattle.refusal.specs.declared.Refusal.TheVariants.{WrongTotal, NotRising, NoWait}
use Rattle.words.specs.Words.{kind}
use Rattle.words.specs.Format.{more, ends, onto}
use Rattle.words.specs.Tests.{all, within, none}
use Rattle.words.proofs.Tests.{all_push, all_append, all_replicate, same_more, check_more, onto_more, onto_ends, check_ends, within_from}
use Rattle.sitelayout.specs.declared.Entry.{Entry}
use Rattle.sitelayout.specs.declared.Head.{Head}
use Rattle.sitelayout.specs.declared.Mark.{Mark}
use Rattle.sitelayout.specs.declared.Move.{Move}
use Rattle.sitelayout.specs.declared.Worth.{Worth}
use Rattle.sitelayout.specs.OneWord.{word_of_head, word_of_mask, word_of_reward, word_of_entry, word_of_move, head_of, mask_of, reward_of, entry_of, move_of}
use Rattle.sitelayout.specs.Site.{Site, taken, apart, total, good_mark, good_move, good_cell, waits, valid}
use Rattle.sitelayout.specs.Layout.{mark_words, move_words, cell_word, cell_words, site_words, Draft, fresh, marking, listing, moving, place_of, padded, marked, read_entry, moved, read_move, read_word, book_of, whole_book, GoodHead, head_words, open_word, written, Good, ends_offered}
use Rattle.sitelayout.proofs.OneWords.{head_reads, mask_reads, reward_reads, entry_reads, move_reads}

-- the words of one list and then another

pub marks-append : (xs ys : List Mark) → mark_words (xs ++ ys) ≡ mark_words xs ++ mark_words ys
marks-append [] ys = refl
marks-append (x ∷ xs) ys = ap (λ l. word_of_mask x.mask ∷ (word_of_reward x.worth.raised x.worth.origin ∷ l)) (marks-append xs ys)

pub moves-append : (xs ys : List Move) → move_words (xs ++ ys) ≡ move_words xs ++ move_words ys
moves-append [] ys = refl
moves-append (x ∷ xs) ys = ap (λ l. word_of_move x ∷ l) (moves-append xs ys)

pub cells-append : (a k : ℕ) (cs ds : List (List Move)) → cell_words a k (cs ++ ds) ≡ cell_words a k cs ++ cell_words a (k + length cs) ds
cells-append a k [] ds =
    let same : k + 0 ≡ k = omega arith in
    ap (λ n. cell_words a n ds) (sym same)
cells-append a k (x ∷ cs) ds =
    let same : k + 1 + length cs ≡ k + suc (length cs) = omega arith in
    ap (λ l. cell_word a k x ++ l) (cells-append a (k + 1) cs ds ∙ ap (λ n. cell_words a (k + 1) cs ++ cell_words a n ds) same)
    ∙ sym (append_assoc (cell_word a k x) (cell_words a (k + 1) cs) (cell_words a (k + suc (length cs)) ds))

cell_words_none : (a k n : ℕ) → cell_words a k (replicate n []) ≡ []
cell_words_none a k zero = refl
cell_words_none a k (suc n) = cell_words_none a (k + 1) n

-- filling up writes nothing
pub cell_words_padded : (a n : ℕ) (cs : List (List Move)) → cell_words a 0 (padded n cs) ≡ cell_words a 0 cs
cell_words_padded a n cs =
    cells-append a 0 cs (replicate (n - length cs) [])
    ∙ ap (λ l. cell_words a 0 cs ++ l) (cell_words_none a (0 + length cs) (n - length cs))
    ∙ append-nil (cell_words a 0 cs)

pub padded-length : (n : ℕ) (cs : List (List Move)) → length cs ≤ n → length (padded n cs) ≡ n
padded-length n cs h = simp (length-append, length-replicate) (omega arith)

taken-push : (t : ℕ) (ms : List Move) (m : Move) → taken t ms ≡ false → eqb t m.target ≡ false → taken t (ms ++ (m ∷ [])) ≡ false
taken-push t [] m h k = or_from (eqb t m.target) false k refl
taken-push t (x ∷ ms) m h k =
    let parts = or_parts (eqb t x.target) (taken t ms) h in
    or_from (eqb t x.target) (taken t (ms ++ (m ∷ []))) parts.0 (taken-push t ms m parts.1 k)

pub either_way : (a b : ℕ) → eqb a b ≡ eqb b a
either_way a b =
    elim (cases_eq a b) [
      | inl same ↦ eq-eqb a b same ∙ sym (eq-eqb b a (sym same))
      | inr other ↦ ne_eqb a b other ∙ sym (ne_eqb b a (λ e. other (sym e)))
    ]

pub apart-push : (ms : List Move) (m : Move) → apart ms ≡ true → taken m.target ms ≡ false → apart (ms ++ (m ∷ [])) ≡ true
apart-push [] m h k = refl
apart-push (x ∷ ms) m h k =
    let parts = and_parts (not (taken x.target ms)) (apart ms) h in
    let others = or_parts (eqb m.target x.target) (taken m.target ms) k in
    and_from (not (taken x.target (ms ++ (m ∷ [])))) (apart (ms ++ (m ∷ [])))
    (not_from_false (taken x.target (ms ++ (m ∷ []))) (taken-push x.target ms m (not-true (taken x.target ms) parts.0) (either_way x.target m.target ∙ others.0)))
    (apart-push ms m parts.1 others.1)

-- one word more

pub more_is_no_end : {t : Draft} → more t ≡ ends → ⊥
more_is_no_end e = search rules

abbrev Next : Draft → ℕ → Draft → Type 0
Next d w t = Good t × (written t ≡ written d ++ (w ∷ []))

mark_next : (h : Head) (ms : List Mark) (m w : ℕ) (r : Worth) → Good (marking h ms (Some m)) → reward_of w ≡ Ok r → Next (marking h ms (Some m)) w (marked h (ms ++ (record { mask = m; worth = r } ∷ [])))
mark_next h ms m w r g said =
    let told = reward_reads w r said in
    let mark : Mark = record { mask = m; worth = r } in
    let one : good_mark h.labels (record { mask = m; worth = r }) ≡ true =
    and_from (ltb m (2 ^ h.labels)) (leb r.raised 4000 && ltb r.origin 4096) (lt-ltb m (2 ^ h.labels) g.1.1) (and_from (leb r.raised 4000) (ltb r.origin 4096) (le-leb r.raised 4000 told.1.0) (lt-ltb r.origin 4096 told.1.1)) in
    let each = all_push (good_mark h.labels) ms (record { mask = m; worth = r }) g.0.1 one in
    let long = length_push ms (record { mask = m; worth = r }) in
    let line : head_words h ∷ mark_words (ms ++ (record { mask = m; worth = r } ∷ [])) ≡ head_words h ∷ ((mark_words ms ++ (word_of_mask m ∷ [])) ++ (w ∷ [])) =
    ap (λ l. head_words h ∷ l) (marks-append ms (record { mask = m; worth = r } ∷ []) ∙ ap (λ v. mark_words ms ++ (word_of_mask m ∷ (v ∷ []))) (sym told.0) ∙ sym (append_assoc (mark_words ms) (word_of_mask m ∷ []) (w ∷ []))) in
    elim (cases_Bool (ltb (length (ms ++ (record { mask = m; worth = r } ∷ []))) h.states)) [
      | inl t ↦ subst (λ b. Next (marking h ms (Some m)) w (cond b (marking h (ms ++ (record { mask = m; worth = r } ∷ [])) None) (listing h (ms ++ (record { mask = m; worth = r } ∷ [])) []))) (sym t)
          (((g.0.0, each), (ltb-true _ _ t, tt)), line)
      | inr t ↦ subst (λ b. Next (marking h ms (Some m)) w (cond b (marking h (ms ++ (record { mask = m; worth = r } ∷ [])) None) (listing h (ms ++ (record { mask = m; worth = r } ∷ [])) []))) (sym t)
          (((g.0.0, each), (omega (arith, ltb-false _ _ t, g.1.0), (refl, (omega arith, refl)))), ap (λ l. head_words h ∷ l) (append-nil (mark_words (ms ++ (record { mask = m; worth = r } ∷ [])))) ∙ line)
    ]

entry_next : (h : Head) (ms : List Mark) (cs : List (List Move)) (w : ℕ) (e : Entry) → Good (listing h ms cs) → entry_of h.states h.actions w ≡ Ok e → length cs ≤ place_of h e
    → Next (listing h ms cs) w (moving h ms (padded (place_of h e) cs) [] (e.outcomes - 1))
entry_next h ms cs w e g said rising =
    let told = entry_reads h.states h.actions w e said in
    let here = padded-length (place_of h e) cs rising in
    let count : 0 + suc (e.outcomes - 1) ≡ e.outcomes = omega (arith, told.1.2) in
    let inside = mul-add-lt e.state h.actions e.action h.states told.1.0 told.1.1 in
    let quotient : length (padded (place_of h e) cs) / h.actions ≡ e.state = ap (λ k. k / h.actions) here ∙ div-mul-add e.state h.actions e.action told.1.1 in
    let remainder : length (padded (place_of h e) cs) % h.actions ≡ e.action = ap (λ k. k % h.actions) here ∙ mod-mul-add e.state h.actions e.action told.1.1 in
    let word : open_word h (length (padded (place_of h e) cs)) (0 + suc (e.outcomes - 1)) ≡ w = (λ i. word_of_entry (quotient i) (remainder i) (count i)) ∙ sym told.0 in (
      (
        g.0,
        (
          g.1.0,
          (
            all_append (good_cell h.states) cs (replicate (place_of h e - length cs) []) g.1.1.0 (all_replicate (good_cell h.states) (place_of h e - length cs) [] refl),
            (omega (arith, inside, here), (refl, (refl, omega (arith, told.1.2, told.1.3)))),
          ),
        ),
      ),
      ap (λ l. head_words h ∷ (mark_words ms ++ l)) ((λ i. cell_words_padded h.actions (place_of h e) cs i ++ (word i ∷ [])))
          ∙ ap (λ l. head_words h ∷ l) (sym (append_assoc (mark_words ms) (cell_words h.actions 0 cs) (w ∷ []))),
    )

cell_word_push : (a k : ℕ) (mv : List Move) (m : Move) → cell_word a k (mv ++ (m ∷ [])) ≡ word_of_entry (k / a) (k % a) (length mv + 1) ∷ (move_words mv ++ (word_of_move m ∷ []))
cell_word_push a k mv m =
    let opens : (l : List Move) → cell_word a k (l ++ (m ∷ [])) ≡ word_of_entry (k / a) (k % a) (length (l ++ (m ∷ []))) ∷ move_words (l ++ (m ∷ [])) = λ l. elim l as (λ l. cell_word a k (l ++ (m ∷ [])) ≡ word_of_entry (k / a) (k % a) (length (l ++ (m ∷ []))) ∷ move_words (l ++ (m ∷ []))) [ [] ↦ refl | x ∷ xs ↦ refl ] in
    opens mv ∙ (λ i. word_of_entry (k / a) (k % a) (length_push mv m i) ∷ moves-append mv (m ∷ []) i)

pub pushed_some : (mv : List Move) (m : Move) → none (mv ++ (m ∷ [])) ≡ false
pushed_some [] m = refl
pushed_some (x ∷ mv) m = refl

ends_offered-push : (cs : List (List Move)) (mv : List Move) (m : Move) → ends_offered (cs ++ ((mv ++ (m ∷ [])) ∷ [])) ≡ true
ends_offered-push [] mv m = not_from_false (none (mv ++ (m ∷ []))) (pushed_some mv m)
ends_offered-push (c ∷ []) mv m = not_from_false (none (mv ++ (m ∷ []))) (pushed_some mv m)
ends_offered-push (c ∷ d ∷ cs) mv m = ends_offered-push (d ∷ cs) mv m

-- the words of an open entry, and one more
open_push : (h : Head) (ms : List Mark) (cs : List (List Move)) (mv : List Move) (due : ℕ) (v : ℕ) → written (moving h ms cs mv due) ++ (v ∷ []) ≡ head_words h ∷ (mark_words ms ++ (cell_words h.actions 0 cs ++ (open_word h (length cs) (length mv + suc due) ∷ (move_words mv ++ (v ∷ [])))))
open_push h ms cs mv due v =
    ap (λ l. head_words h ∷ l) (append_assoc (mark_words ms) (cell_words h.actions 0 cs ++ (open_word h (length cs) (length mv + suc due) ∷ move_words mv)) (v ∷ [])
    ∙ ap (λ l. mark_words ms ++ l) (append_assoc (cell_words h.actions 0 cs) (open_word h (length cs) (length mv + suc due) ∷ move_words mv) (v ∷ [])))

move_next : (h : Head) (ms : List Mark) (cs : List (List Move)) (mv : List Move) (due w : ℕ) (m : Move) (t : Draft) → Good (moving h ms cs mv due) → move_of h.states w ≡ Ok m → taken m.target mv ≡ false
    → moved h ms cs (mv ++ (m ∷ [])) due ≡ more t → Next (moving h ms cs mv due) w t
move_next h ms cs mv zero w m t g said free e =
    let told = move_reads h.states w m said in
    let eight = check_more (eqb (total (mv ++ (m ∷ []))) 8) WrongTotal (more (listing h ms (cs ++ ((mv ++ (m ∷ [])) ∷ [])))) t e in
    let one : good_move h.states m ≡ true = and_from (ltb m.target h.states) (within 1 8 m.weight) (lt-ltb m.target h.states told.1.0) (within_from 1 8 m.weight told.1.1 told.1.2) in
    let each = all_push (good_move h.states) mv m g.1.1.1.1.0 one in
    let long = length_push mv m in
    let few : leb (length (mv ++ (m ∷ []))) 8 ≡ true = le-leb (length (mv ++ (m ∷ []))) 8 (omega (arith, long, g.1.1.1.1.1.1)) in
    let cell : good_cell h.states (mv ++ (m ∷ [])) ≡ true =
    or_right (none (mv ++ (m ∷ []))) (leb (length (mv ++ (m ∷ []))) 8 && (all (good_move h.states) (mv ++ (m ∷ [])) && (apart (mv ++ (m ∷ [])) && eqb (total (mv ++ (m ∷ []))) 8)))
    (and_from (leb (length (mv ++ (m ∷ []))) 8) (all (good_move h.states) (mv ++ (m ∷ [])) && (apart (mv ++ (m ∷ [])) && eqb (total (mv ++ (m ∷ []))) 8)) few
    (and_from (all (good_move h.states) (mv ++ (m ∷ []))) (apart (mv ++ (m ∷ [])) && eqb (total (mv ++ (m ∷ []))) 8) each
    (and_from (apart (mv ++ (m ∷ []))) (eqb (total (mv ++ (m ∷ []))) 8) (apart-push mv m g.1.1.1.1.1.0 free) eight.0))) in
    let line : written (listing h ms (cs ++ ((mv ++ (m ∷ [])) ∷ []))) ≡ written (moving h ms cs mv zero) ++ (w ∷ []) =
    ap (λ l. head_words h ∷ (mark_words ms ++ l)) (cells-append h.actions 0 cs ((mv ++ (m ∷ [])) ∷ [])
    ∙ ap (λ l. cell_words h.actions 0 cs ++ l) (append-nil (cell_word h.actions (0 + length cs) (mv ++ (m ∷ []))) ∙ ap (λ k. cell_word h.actions k (mv ++ (m ∷ []))) (zero-add (length cs)) ∙ cell_word_push h.actions (length cs) mv m ∙ ap (λ v. open_word h (length cs) (length mv + 1) ∷ (move_words mv ++ (v ∷ []))) (sym told.0)))
    ∙ sym (open_push h ms cs mv zero w) in
    subst (Next (moving h ms cs mv zero) w) (same_more eight.1)
    ((g.0, (g.1.0, (all_push (good_cell h.states) cs (mv ++ (m ∷ [])) g.1.1.0 cell, (omega (arith, length_push cs (mv ++ (m ∷ [])), g.1.1.1.0), ends_offered-push cs mv m)))), line)
move_next h ms cs mv (suc due) w m t g said free e =
    let told = move_reads h.states w m said in
    let one : good_move h.states m ≡ true = and_from (ltb m.target h.states) (within 1 8 m.weight) (lt-ltb m.target h.states told.1.0) (within_from 1 8 m.weight told.1.1 told.1.2) in
    let long = length_push mv m in
    let count : length (mv ++ (m ∷ [])) + suc due ≡ length mv + suc (suc due) = omega (arith, long) in
    let line : written (moving h ms cs (mv ++ (m ∷ [])) due) ≡ written (moving h ms cs mv (suc due)) ++ (w ∷ []) =
    (λ i. head_words h ∷ (mark_words ms ++ (cell_words h.actions 0 cs ++ (open_word h (length cs) (count i) ∷ (moves-append mv (m ∷ []) ∙ ap (λ v. move_words mv ++ (v ∷ [])) (sym told.0)) i))))
    ∙ sym (open_push h ms cs mv (suc due) w) in
    subst (Next (moving h ms cs mv (suc due)) w) (same_more e)
    ((g.0, (g.1.0, (g.1.1.0, (g.1.1.1.0, (all_push (good_move h.states) mv m g.1.1.1.1.0 one, (apart-push mv m g.1.1.1.1.1.0 free, omega (arith, long, g.1.1.1.1.1.1))))))), line)

-- each word that is read keeps what is known, and is the next of the words written
pub word_kept : (d t : Draft) (w : ℕ) → Good d → read_word d w ≡ more t → Good t × (written t ≡ written d ++ (w ∷ []))
unfolding read_word
word_kept fresh t w g e =
    let got = onto_more (head_of w) (λ h. more (marking h [] None)) t e in
    let told = head_reads w got.0 got.1.0 in
    subst (Next fresh w) (same_more got.1.1) (((told.1, refl), (omega (arith, told.1.0), tt)), ap (λ v. v ∷ []) (sym told.0))
word_kept (marking h ms None) t w g e =
    let got = onto_more (mask_of h.labels w) (λ m. more (marking h ms (Some m))) t e in
    let told = mask_reads h.labels w got.0 got.1.0 in
    subst (Next (marking h ms None) w) (same_more got.1.1) ((g.0, (g.1.0, told.1)), ap (λ v. head_words h ∷ (mark_words ms ++ (v ∷ []))) (sym told.0))
word_kept (marking h ms (Some m)) t w g e =
    let got = onto_more (reward_of w) (λ r. more (marked h (ms ++ (record { mask = m; worth = r } ∷ [])))) t e in
    subst (Next (marking h ms (Some m)) w) (same_more got.1.1) (mark_next h ms m w got.0 g got.1.0)
word_kept (listing h ms cs) t w g e =
    elim (cases_Bool (eqb (kind w) 15)) [
      | inl is ↦ absurd (more_is_no_end (sym e ∙ ap (λ b. cond b ends (onto (entry_of h.states h.actions w) (read_entry h ms cs))) is))
      | inr no15 ↦
          let got = onto_more (entry_of h.states h.actions w) (read_entry h ms cs) t (sym (ap (λ b. cond b ends (onto (entry_of h.states h.actions w) (read_entry h ms cs))) no15) ∙ e) in
          let rising = check_more (leb (length cs) (place_of h got.0)) NotRising (more (moving h ms (padded (place_of h got.0) cs) [] (got.0.outcomes - 1))) t got.1.1 in
          subst (Next (listing h ms cs) w) (same_more rising.1) (entry_next h ms cs w got.0 g got.1.0 (leb-true (length cs) (place_of h got.0) rising.0))
    ]
word_kept (moving h ms cs mv due) t w g e =
    let got = onto_more (move_of h.states w) (read_move h ms cs mv due) t e in
    let free = check_more (not (taken got.0.target mv)) NotRising (moved h ms cs (mv ++ (got.0 ∷ [])) due) t got.1.1 in
    move_next h ms cs mv due w got.0 t g got.1.0 (not-true (taken got.0.target mv) free.0) free.1

moved_no_end : (h : Head) (ms : List Mark) (cs : List (List Move)) (mv : List Move) (due : ℕ) → moved h ms cs mv due ≡ ends → ⊥
moved_no_end h ms cs mv zero e = more_is_no_end (check_ends (eqb (total mv) 8) WrongTotal (more (listing h ms (cs ++ (mv ∷ [])))) e).1
moved_no_end h ms cs mv (suc due) e = more_is_no_end e

-- only an end word ends
pub end_word_reads : (d : Draft) (w : ℕ) → read_word d w ≡ ends → kind w ≡ 15
unfolding read_word
end_word_reads fresh w e = absurd (more_is_no_end (onto_ends (head_of w) (λ h. more (marking h [] None)) e).1.1)
end_word_reads (marking h ms None) w e = absurd (more_is_no_end (onto_ends (mask_of h.labels w) (λ m. more (marking h ms (Some m))) e).1.1)
end_word_reads (marking h ms (Some m)) w e = absurd (more_is_no_end (onto_ends (reward_of w) (λ r. more (marked h (ms ++ (record { mask = m; worth = r } ∷ [])))) e).1.1)
end_word_reads (listing h ms cs) w e =
    elim (cases_Bool (eqb (kind w) 15)) [
      | inl is ↦ eqb-true (kind w) 15 is
      | inr no15 ↦
          let got = onto_ends (entry_of h.states h.actions w) (read_entry h ms cs) (sym (ap (λ b. cond b ends (onto (entry_of h.states h.actions w) (read_entry h ms cs))) no15) ∙ e) in
          absurd (more_is_no_end (check_ends (leb (length cs) (place_of h got.0)) NotRising (more (moving h ms (padded (place_of h got.0) cs) [] (got.0.outcomes - 1))) got.1.1).1)
    ]
end_word_reads (moving h ms cs mv due) w e =
    let got = onto_ends (move_of h.states w) (read_move h ms cs mv due) e in
    absurd (moved_no_end h ms cs (mv ++ (got.0 ∷ [])) due (check_ends (not (taken got.0.target mv)) NotRising (moved h ms cs (mv ++ (got.0 ∷ [])) due) got.1.1).1)

same_book : {x y : Site} → ◌≡◌ {A = Result Site Refusal} (Ok x) (Ok y) → x ≡ y
same_book e = cc

valid_from : (h : Head) (ms : List Mark) (cs : List (List Move)) → GoodHead h → length ms ≡ h.states → all (good_mark h.labels) ms ≡ true → all (good_cell h.states) cs ≡ true → length cs ≤ h.states * h.actions
    → waits h.actions h.states (padded (h.states * h.actions) cs) ≡ true → valid (book_of h ms cs) ≡ true
valid_from h ms cs g long marks cells few w =
    let k = padded (h.states * h.actions) cs in
    let same : (n : ℕ) → n ≡ h.states → (within 1 4096 n && (leb h.labels 24 && (within 1 8 h.actions && (all (good_mark h.labels) ms && (eqb (length (padded (h.states * h.actions) cs)) (n * h.actions) && (all (good_cell n) (padded (h.states * h.actions) cs) && waits h.actions n (padded (h.states * h.actions) cs))))))) ≡ true =
    λ n e. subst (λ n. (within 1 4096 n && (leb h.labels 24 && (within 1 8 h.actions && (all (good_mark h.labels) ms && (eqb (length (padded (h.states * h.actions) cs)) (n * h.actions) && (all (good_cell n) (padded (h.states * h.actions) cs) && waits h.actions n (padded (h.states * h.actions) cs))))))) ≡ true) (sym e)
    (and_from _ _ (within_from 1 4096 h.states g.0 g.1)
    (and_from _ _ (le-leb h.labels 24 g.2)
    (and_from _ _ (within_from 1 8 h.actions g.3 g.4)
    (and_from _ _ marks
    (and_from _ _ (eq-eqb _ _ (padded-length (h.states * h.actions) cs few))
    (and_from _ _ (all_append (good_cell h.states) cs (replicate (h.states * h.actions - length cs) []) cells (all_replicate (good_cell h.states) (h.states * h.actions - length cs) [] refl))
    w)))))) in
    same (length ms) long

abbrev pub choice : Bool → Site → Result Site Refusal
choice t b = cond t (Ok b) (Err NoWait)

-- a whole book is that of the table, and every state waits
pub whole_book_is : (h : Head) (ms : List Mark) (cs : List (List Move)) (b : Site) → whole_book (listing h ms cs) ≡ Ok b → (waits h.actions h.states (padded (h.states * h.actions) cs) ≡ true) × (book_of h ms cs ≡ b)
unfolding whole_book
whole_book_is h ms cs b e =
    elim (cases_Bool (waits h.actions h.states (padded (h.states * h.actions) cs))) [
      | inr never ↦ let z : ◌≡◌ {A = ℕ} 0 1 = cc (ap (λ t. choice t (book_of h ms cs)) never, e) in absurd (omega arith)
      | inl w ↦ (w, same_book (sym (ap (λ t. choice t (book_of h ms cs)) w) ∙ e))
    ]

-- a whole book is valid, and its words are those that were read
pub book_kept : (d : Draft) (b : Site) → Good d → whole_book d ≡ Ok b → (valid b ≡ true) × (written d ≡ site_words b)
unfolding whole_book
book_kept fresh b g e = search rules
book_kept (marking h ms o) b g e = search rules
book_kept (moving h ms cs mv due) b g e = search rules
book_kept (listing h ms cs) b g e =
    let told = whole_book_is h ms cs b e in
    subst (λ b. (valid b ≡ true) × (written (listing h ms cs) ≡ site_words b)) told.1 (
      valid_from h ms cs g.0.0 g.1.0 g.0.1 g.1.1.0 g.1.1.1.0 told.0,
      sym (λ i. word_of_head (g.1.0 i) h.labels h.actions ∷ (mark_words ms ++ cell_words_padded h.actions (h.states * h.actions) cs i)),
    )
