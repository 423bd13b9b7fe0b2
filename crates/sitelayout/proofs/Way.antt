-- Reading the encoding of a valid site book gives that book back: its words lead through the format. For others:
-- `site_faithful`, the three laws of the layout.
use Rattle.std.proofs.Common.{◌≡◌, ℕ, zero, suc, ◌+◌, ◌-◌, ◌*◌, ◌/◌, ◌%◌, ◌^◌, ◌<◌, ◌≤◌, IsTrue, true, false, cond, not, eqb, leb, List, [], ◌∷◌, ◌++◌, length, replicate, Some, None, Ok, sym, refl, ap, ◌∙◌, subst, append_assoc, append-nil, mod-lt, zero-add, arith, length-append, pow_mono}
use Rattle.std.proofs.lemmas.Nat.{div-add-mod', div_below, mul-le}
use Rattle.std.proofs.lemmas.List.{length_push, replicate_more}
use Rattle.std.proofs.lemmas.Bool.{and_parts, or_parts, or_from, eqb-false, ne_eqb, eq-eqb, lt-ltb, le-ltb, le-leb, not-true, not_from_false}
use Rattle.refusal.specs.declared.Refusal.TheVariants.{WrongTotal, NotRising}
use Rattle.words.specs.Words.{kind, end_word}
use Rattle.words.specs.Format.{more, ends, onto, got, reading, file, ReadsBack, Faithful}
use Rattle.words.specs.Tests.{all}
use Rattle.words.proofs.Reading.{places_right}
use Rattle.words.proofs.Encoding.{Passes, passes_append, reads_file, only_encodings}
use Rattle.words.proofs.Fields.{kind_put}
use Rattle.words.proofs.Tests.{check_passed}
use Rattle.sitelayout.specs.declared.Head.{Head}
use Rattle.sitelayout.specs.declared.Mark.{Mark}
use Rattle.sitelayout.specs.declared.Move.{Move}
use Rattle.sitelayout.specs.OneWord.{word_of_head, word_of_mask, word_of_reward, word_of_entry, word_of_move, entry_of}
use Rattle.sitelayout.specs.Site.{Site, taken, apart, total, good_mark, good_move, good_cell, waits, valid}
use Rattle.sitelayout.specs.Layout.{mark_words, move_words, cell_word, cell_words, site_words, fresh, marking, listing, moving, padded, marked, read_entry, moved, read_move, read_word, book_of, whole_book, site_format, GoodHead, head_words, open_word, written, Good}
use Rattle.sitelayout.proofs.OneWords.{head_written, mask_written, reward_written, entry_written, move_written}
use Rattle.sitelayout.proofs.Account.{word_kept, end_word_reads, book_kept, choice}
use Rattle.sitelayout.proofs.Valid.{move_parts, mark_parts, cell_good, Validly, validly}

-- in a list without repeats a target is not among those before it
free_before : (before : List Move) (m : Move) (rest : List Move) → apart (before ++ (m ∷ rest)) ≡ true → taken m.target before ≡ false
free_before [] m rest h = refl
free_before (x ∷ before) m rest h =
    let parts = and_parts (not (taken x.target (before ++ (m ∷ rest)))) (apart (before ++ (m ∷ rest))) h in
    or_from (eqb m.target x.target) (taken m.target before)
    (not_among before m rest x.target (not-true (taken x.target (before ++ (m ∷ rest))) parts.0))
    (free_before before m rest parts.1)
  where
    not_among : (before : List Move) (m : Move) (rest : List Move) (t : ℕ) → taken t (before ++ (m ∷ rest)) ≡ false → eqb m.target t ≡ false
    not_among [] m rest t h = ne_eqb m.target t (λ e. eqb-false t m.target (or_parts (eqb t m.target) (taken t rest) h).0 (sym e))
    not_among (y ∷ before) m rest t h = not_among before m rest t (or_parts (eqb t y.target) (taken t (before ++ (m ∷ rest))) h).1

module _ (h : Head) (g : GoodHead h) (ms : List Mark) where
  move_step : (cs : List (List Move)) (before : List Move) (due : ℕ) (m : Move) → good_move h.states m ≡ true → taken m.target before ≡ false → read_word (moving h ms cs before due) (word_of_move m) ≡ moved h ms cs (before ++ (m ∷ [])) due
  unfolding read_word
  move_step cs before due m one free =
      ap (λ said. onto said (read_move h ms cs before due)) (move_written h.states m g.1 (move_parts h.states m one))
      ∙ check_passed (not (taken m.target before)) NotRising (moved h ms cs (before ++ (m ∷ [])) due) (not_from_false (taken m.target before) free)

  move_low : (m : Move) → good_move h.states m ≡ true → word_of_move m < 2 ^ 32
  move_low m one = let o = move_parts h.states m one in omega (arith, o.0, o.2, g.1)

  -- the outcomes of an entry lead to its end
  way_moves : (cs : List (List Move)) (before : List Move) (m : Move) (rest : List Move) → all (good_move h.states) (m ∷ rest) ≡ true → apart (before ++ (m ∷ rest)) ≡ true → total (before ++ (m ∷ rest)) ≡ 8
      → Passes site_format (moving h ms cs before (length rest)) (move_words (m ∷ rest)) (listing h ms (cs ++ ((before ++ (m ∷ rest)) ∷ [])))
  way_moves cs before m [] each one sum =
      let parts = and_parts (good_move h.states m) true each in (
        listing h ms (cs ++ ((before ++ (m ∷ [])) ∷ [])),
        (
          move_step cs before zero m parts.0 (free_before before m [] one) ∙ check_passed (eqb (total (before ++ (m ∷ []))) 8) WrongTotal (more (listing h ms (cs ++ ((before ++ (m ∷ [])) ∷ [])))) (eq-eqb (total (before ++ (m ∷ []))) 8 sum),
          (move_low m parts.0, refl),
        ),
      )
  way_moves cs before m (r ∷ rest) each one sum =
      let parts = and_parts (good_move h.states m) (all (good_move h.states) (r ∷ rest)) each in
      let same : (before ++ (m ∷ [])) ++ (r ∷ rest) ≡ before ++ (m ∷ (r ∷ rest)) = append_assoc before (m ∷ []) (r ∷ rest) in (
        moving h ms cs (before ++ (m ∷ [])) (length rest),
        (
          move_step cs before (suc (length rest)) m parts.0 (free_before before m (r ∷ rest) one),
          (
            move_low m parts.0,
            subst (λ l. Passes site_format (moving h ms cs (before ++ (m ∷ [])) (length rest)) (move_words (r ∷ rest)) (listing h ms (cs ++ (l ∷ [])))) same
                (way_moves cs (before ++ (m ∷ [])) r rest parts.1 (ap apart same ∙ one) (ap total same ∙ sum)),
          ),
        ),
      )

  -- some outcomes of an entry lead to more
  pub moves_lead : (cs : List (List Move)) (before rest : List Move) (due : ℕ) → all (good_move h.states) rest ≡ true → apart (before ++ rest) ≡ true
      → Passes site_format (moving h ms cs before (length rest + due)) (move_words rest) (moving h ms cs (before ++ rest) due)
  moves_lead cs before [] due each one = λ i. moving h ms cs (sym (append-nil before) i) (zero-add due i)
  moves_lead cs before (m ∷ rest) due each one =
      let parts = and_parts (good_move h.states m) (all (good_move h.states) rest) each in
      let same : (before ++ (m ∷ [])) ++ rest ≡ before ++ (m ∷ rest) = append_assoc before (m ∷ []) rest in
      let more_due : length (m ∷ rest) + due ≡ suc (length rest + due) = omega arith in (
        moving h ms cs (before ++ (m ∷ [])) (length rest + due),
        (
          ap (λ n. read_word (moving h ms cs before n) (word_of_move m)) more_due ∙ move_step cs before (suc (length rest + due)) m parts.0 (free_before before m rest one),
          (
            move_low m parts.0,
            subst (λ l. Passes site_format (moving h ms cs (before ++ (m ∷ [])) (length rest + due)) (move_words rest) (moving h ms cs l due)) same
                (moves_lead cs (before ++ (m ∷ [])) rest due parts.1 (ap apart same ∙ one)),
          ),
        ),
      )

  -- the word of an entry opens its cell
  pub entry_step : (k : ℕ) (cs : List (List Move)) (n : ℕ) → length cs ≤ k → k < h.states * h.actions → 1 ≤ n → n ≤ 8 → (read_word (listing h ms cs) (open_word h k n) ≡ more (moving h ms (padded k cs) [] (n - 1))) × (open_word h k n < 2 ^ 32)
  unfolding read_word
  entry_step k cs n behind inside some few =
      let acts : 0 < h.actions = g.3 in
      let col : k % h.actions < h.actions = mod-lt k acts in
      let row : k / h.actions < h.states = div_below k h.actions h.states acts inside in
      let whole : k / h.actions * h.actions + k % h.actions ≡ k = div-add-mod' k h.actions in
      let said = entry_written h.states h.actions (k / h.actions) (k % h.actions) n g.1 g.4 (row, col, some, few) in
      let kd : kind (word_of_entry (k / h.actions) (k % h.actions) n) ≡ 4 = kind_put (k / h.actions + k % h.actions * 2 ^ 12 + n * 2 ^ 15) 4 (omega (arith, row, col, few, g.1, g.4)) in
      let other : eqb (kind (word_of_entry (k / h.actions) (k % h.actions) n)) 15 ≡ false = ne_eqb (kind (word_of_entry (k / h.actions) (k % h.actions) n)) 15 (λ e. omega (arith, kd, e)) in (
        ap (λ t. cond t ends (onto (entry_of h.states h.actions (word_of_entry (k / h.actions) (k % h.actions) n)) (read_entry h ms cs))) other
            ∙ ap (λ s. onto s (read_entry h ms cs)) said
            ∙ check_passed (leb (length cs) (k / h.actions * h.actions + k % h.actions)) NotRising (more (moving h ms (padded (k / h.actions * h.actions + k % h.actions) cs) [] (n - 1))) (le-leb (length cs) (k / h.actions * h.actions + k % h.actions) (omega (arith, whole, behind)))
            ∙ (λ i. more (moving h ms (padded (whole i) cs) [] (n - 1))),
        omega (arith, row, col, few, g.1, g.4),
      )

  -- an entry that is offered leads to the end of its outcomes
  way_cell : (k : ℕ) (cs : List (List Move)) (m : Move) (rest : List Move) → length cs ≤ k → k < h.states * h.actions → good_cell h.states (m ∷ rest) ≡ true
      → Passes site_format (listing h ms cs) (cell_word h.actions k (m ∷ rest)) (listing h ms (padded k cs ++ ((m ∷ rest) ∷ [])))
  way_cell k cs m rest behind inside cell =
      let good = cell_good h.states (m ∷ rest) cell in
      let opens = entry_step k cs (length (m ∷ rest)) behind inside (omega arith) good.few in
      let due : length (m ∷ rest) - 1 ≡ length rest = omega arith in (
        moving h ms (padded k cs) [] (length rest),
        (opens.0 ∙ ap (λ n. more (moving h ms (padded k cs) [] n)) due, (opens.1, way_moves (padded k cs) [] m rest good.moves good.distinct (good.whole refl))),
      )

head_step : (h : Head) → GoodHead h → read_word fresh (word_of_head h.states h.labels h.actions) ≡ more (marking h [] None)
unfolding read_word
head_step h g = ap (λ s. onto s (λ x. more (marking x [] None))) (head_written h.states h.labels h.actions g)

module _ (h : Head) (g : GoodHead h) where
  pub mask_step : (before : List Mark) (m : ℕ) → m < 2 ^ h.labels → read_word (marking h before None) (word_of_mask m) ≡ more (marking h before (Some m))
  unfolding read_word
  mask_step before m low = ap (λ s. onto s (λ x. more (marking h before (Some x)))) (mask_written h.labels m low g.2)

  reward_step : (before : List Mark) (m : Mark) → good_mark h.labels m ≡ true → read_word (marking h before (Some m.mask)) (word_of_reward m.worth.raised m.worth.origin) ≡ more (marked h (before ++ (m ∷ [])))
  unfolding read_word
  reward_step before m e =
      ap (λ s. onto s (λ r. more (marked h (before ++ (record { mask = m.mask; worth = r } ∷ []))))) (reward_written m.worth.raised m.worth.origin (mark_parts h.labels m e).1 (mark_parts h.labels m e).2)

  pub marked_more : (ms : List Mark) → length ms < h.states → marked h ms ≡ marking h ms None
  marked_more ms few = ap (λ b. cond b (marking h ms None) (listing h ms [])) (lt-ltb (length ms) h.states few)

  pub marked_all : (ms : List Mark) → length ms ≡ h.states → marked h ms ≡ listing h ms []
  marked_all ms all_read = ap (λ b. cond b (marking h ms None) (listing h ms [])) (le-ltb (length ms) h.states (omega arith))

  -- some states lead to more, and the last to the entries
  way_marks : (before rest : List Mark) → all (good_mark h.labels) rest ≡ true → length before + length rest ≤ h.states → Passes site_format (marked h before) (mark_words rest) (marked h (before ++ rest))
  way_marks before [] each few = ap (marked h) (sym (append-nil before))
  way_marks before (m ∷ rest) each few =
      let parts = and_parts (good_mark h.labels m) (all (good_mark h.labels) rest) each in
      let is = mark_parts h.labels m parts.0 in
      let top : 2 ^ h.labels ≤ 2 ^ 24 = pow_mono g.2 in
      let same : (before ++ (m ∷ [])) ++ rest ≡ before ++ (m ∷ rest) = append_assoc before (m ∷ []) rest in
      let due : marked h before ≡ marking h before None = marked_more before (omega arith) in
      subst (λ d. Passes site_format d (mark_words (m ∷ rest)) (marked h (before ++ (m ∷ rest)))) (sym due) (
        marking h before (Some m.mask),
        (
          mask_step before m.mask is.0,
          (
            omega (arith, is.0, top),
            (
              marked h (before ++ (m ∷ [])),
              (
                reward_step before m parts.0,
                (
                  omega (arith, is.1, is.2),
                  subst (λ l. Passes site_format (marked h (before ++ (m ∷ []))) (mark_words rest) (marked h l)) same (way_marks (before ++ (m ∷ [])) rest parts.1 (omega (arith, length_push before m))),
                ),
              ),
            ),
          ),
        ),
      )

  -- the head and some states lead to what is due after them
  pub states_lead : (ms : List Mark) → all (good_mark h.labels) ms ≡ true → length ms ≤ h.states → Passes site_format fresh (head_words h ∷ mark_words ms) (marked h ms)
  states_lead ms each few = (
    marking h [] None,
    (
      head_step h g,
      (
        omega (arith, g.1, g.2, g.4),
        subst (λ d. Passes site_format d (mark_words ms) (marked h ms)) (marked_more [] g.0) (way_marks [] ms each (omega arith)),
      ),
    ),
  )

pad_push : (n : ℕ) (cs : List (List Move)) → length cs ≤ n → padded (n + 1) cs ≡ padded n cs ++ ([] ∷ [])
pad_push n cs h =
    let one : n + 1 - length cs ≡ n - length cs + 1 = omega arith in
    ap (λ k. cs ++ replicate k []) one ∙ ap (λ l. cs ++ l) (sym (replicate_more (n - length cs) [])) ∙ sym (append_assoc cs (replicate (n - length cs) []) ([] ∷ []))

pad_full : (n : ℕ) (cs : List (List Move)) → length cs ≡ n → padded n cs ≡ cs
pad_full n cs h =
    let none_left : n - length cs ≡ 0 = omega arith in
    ap (λ k. cs ++ replicate k []) none_left ∙ append-nil cs

module _ (h : Head) (g : GoodHead h) (ms : List Mark) where
  -- the entries of a book, from place k on, lead to a table that is the whole one when it is filled up
  abbrev pub CellsLead : ℕ → List (List Move) → List (List Move) → List (List Move) → Type 0
  CellsLead k cs rest whole = (fs : List (List Move)) × (Passes site_format (listing h ms cs) (cell_words h.actions k rest) (listing h ms fs) × ((length fs ≤ length whole) × (padded (length whole) fs ≡ whole)))

  pub way_cells : (k : ℕ) (done cs rest whole : List (List Move)) → k ≡ length done → done ++ rest ≡ whole → padded k cs ≡ done → length cs ≤ k → all (good_cell h.states) rest ≡ true → length whole ≤ h.states * h.actions → CellsLead k cs rest whole
  way_cells k done cs [] whole at join full behind each few =
      let same : k ≡ length whole = at ∙ ap length (sym (append-nil done) ∙ join) in
      (cs, (refl, (omega arith, ap (λ n. padded n cs) (sym same) ∙ full ∙ sym (append-nil done) ∙ join)))
  way_cells k done cs ([] ∷ rest) whole at join full behind each few =
      way_cells (k + 1) (done ++ ([] ∷ [])) cs rest whole (omega (arith, length_push {X = List Move} done [])) (append_assoc done ([] ∷ []) rest ∙ join) (pad_push k cs behind ∙ ap (λ l. l ++ ([] ∷ [])) full) (omega arith) each few
  way_cells k done cs ((m ∷ mv) ∷ rest) whole at join full behind each few =
      let parts = and_parts (good_cell h.states (m ∷ mv)) (all (good_cell h.states) rest) each in
      let long : length whole ≡ length done + suc (length rest) = sym (ap length join) ∙ length-append done ((m ∷ mv) ∷ rest) in
      let first = way_cell h g ms k cs m mv behind (omega arith) parts.0 in
      let next = done ++ ((m ∷ mv) ∷ []) in
      let size = length_push done (m ∷ mv) in
      let later = way_cells (k + 1) (done ++ ((m ∷ mv) ∷ [])) (done ++ ((m ∷ mv) ∷ [])) rest whole (omega arith) (append_assoc done ((m ∷ mv) ∷ []) rest ∙ join) (pad_full (k + 1) (done ++ ((m ∷ mv) ∷ [])) (omega arith)) (omega arith) parts.1 few in (
        later.0,
        (
          passes_append site_format (cell_word h.actions k (m ∷ mv)) (cell_words h.actions (k + 1) rest) (listing h ms cs) (listing h ms (done ++ ((m ∷ mv) ∷ []))) (listing h ms later.0)
              (subst (λ l. Passes site_format (listing h ms cs) (cell_word h.actions k (m ∷ mv)) (listing h ms (l ++ ((m ∷ mv) ∷ [])))) full first) later.1.0,
          later.1.1,
        ),
      )

pub length-marks : (ms : List Mark) → length (mark_words ms) ≡ 2 * length ms
length-marks [] = refl
length-marks (m ∷ ms) = omega (arith, length-marks ms)

pub length-moves : (ms : List Move) → length (move_words ms) ≡ length ms
length-moves [] = refl
length-moves (m ∷ ms) = ap suc (length-moves ms)

length-cells : (n a k : ℕ) (cs : List (List Move)) → all (good_cell n) cs ≡ true → length (cell_words a k cs) ≤ 9 * length cs
length-cells n a k [] each = omega arith
length-cells n a k ([] ∷ cs) each = omega (arith, length-cells n a (k + 1) cs each)
length-cells n a k ((m ∷ mv) ∷ cs) each =
    let parts = and_parts (good_cell n (m ∷ mv)) (all (good_cell n) cs) each in
    let few = (cell_good n (m ∷ mv) parts.0).few in
    omega (arith, length-append (cell_word a k (m ∷ mv)) (cell_words a (k + 1) cs), length-moves mv, length-cells n a (k + 1) cs parts.1)

end_step : (h : Head) (ms : List Mark) (cs : List (List Move)) (n : ℕ) → n < 2 ^ 28 → read_word (listing h ms cs) (end_word n) ≡ ends
unfolding read_word
end_step h ms cs n low =
    ap (λ t. cond t ends (onto (entry_of h.states h.actions (end_word n)) (read_entry h ms cs))) (eq-eqb (kind (end_word n)) 15 (kind_put n 15 low))

book_step : (h : Head) (ms : List Mark) (cs : List (List Move)) (b : Site) → book_of h ms cs ≡ b → waits h.actions h.states (padded (h.states * h.actions) cs) ≡ true → whole_book (listing h ms cs) ≡ Ok b
unfolding whole_book
book_step h ms cs b same w = ap (λ t. choice t (book_of h ms cs)) w ∙ ap Ok same

-- a book with its states written out
reads_back_from : (labels actions : ℕ) (m : Mark) (rest : List Mark) (cells : List (List Move)) → Validly (record { labels = labels; actions = actions; marks = m ∷ rest; cells = cells })
    → reading site_format (file (site_words (record { labels = labels; actions = actions; marks = m ∷ rest; cells = cells }))) ≡ got (record { labels = labels; actions = actions; marks = m ∷ rest; cells = cells })
reads_back_from labels actions m rest cells v =
    let h : Head = record { states = length (m ∷ rest); labels = labels; actions = actions } in
    let g : GoodHead (record { states = length (m ∷ rest); labels = labels; actions = actions }) = (v.some, v.many, v.labels, v.acts, v.few) in
    let states = states_lead (record { states = length (m ∷ rest); labels = labels; actions = actions }) g (m ∷ rest) v.marks (omega arith) in
    let marks : Passes site_format fresh (head_words (record { states = length (m ∷ rest); labels = labels; actions = actions }) ∷ mark_words (m ∷ rest)) (listing (record { states = length (m ∷ rest); labels = labels; actions = actions }) (m ∷ rest) []) =
    subst (Passes site_format fresh (head_words (record { states = length (m ∷ rest); labels = labels; actions = actions }) ∷ mark_words (m ∷ rest))) (marked_all (record { states = length (m ∷ rest); labels = labels; actions = actions }) g (m ∷ rest) refl) states in
    let table = way_cells (record { states = length (m ∷ rest); labels = labels; actions = actions }) g (m ∷ rest) 0 [] [] cells cells refl refl refl (omega arith) v.cells (omega (arith, v.table)) in
    let full : padded (length (m ∷ rest) * actions) table.0 ≡ cells = ap (λ n. padded n table.0) (sym v.table) ∙ table.1.1.1 in
    let small : length (m ∷ rest) * actions ≤ 4096 * 8 = mul-le (length (m ∷ rest)) actions 4096 8 v.many v.few in
    let size : length (site_words (record { labels = labels; actions = actions; marks = m ∷ rest; cells = cells })) < 2 ^ 28 =
    omega (arith, length-append (mark_words (m ∷ rest)) (cell_words actions 0 cells), length-marks (m ∷ rest), length-cells (length (m ∷ rest)) actions 0 cells v.cells, v.table, small, v.many) in
    let way : Passes site_format fresh (site_words (record { labels = labels; actions = actions; marks = m ∷ rest; cells = cells })) (listing (record { states = length (m ∷ rest); labels = labels; actions = actions }) (m ∷ rest) table.0) =
    passes_append site_format (head_words (record { states = length (m ∷ rest); labels = labels; actions = actions }) ∷ mark_words (m ∷ rest)) (cell_words actions 0 cells) fresh (listing (record { states = length (m ∷ rest); labels = labels; actions = actions }) (m ∷ rest) []) (listing (record { states = length (m ∷ rest); labels = labels; actions = actions }) (m ∷ rest) table.0) marks table.1.0 in
    reads_file site_format (site_words (record { labels = labels; actions = actions; marks = m ∷ rest; cells = cells })) (listing (record { states = length (m ∷ rest); labels = labels; actions = actions }) (m ∷ rest) table.0) (record { labels = labels; actions = actions; marks = m ∷ rest; cells = cells })
    way size (end_step (record { states = length (m ∷ rest); labels = labels; actions = actions }) (m ∷ rest) table.0 (length (site_words (record { labels = labels; actions = actions; marks = m ∷ rest; cells = cells }))) size)
    (book_step (record { states = length (m ∷ rest); labels = labels; actions = actions }) (m ∷ rest) table.0 (record { labels = labels; actions = actions; marks = m ∷ rest; cells = cells }) (λ i. record { labels = labels; actions = actions; marks = m ∷ rest; cells = full i })
    (ap (waits actions (length (m ∷ rest))) full ∙ v.waiting))

reads_back : ReadsBack site_format (λ b. IsTrue (valid b)) site_words
reads_back b e = from b.marks refl
  where
    from : (ms : List Mark) → b.marks ≡ ms → reading site_format (file (site_words b)) ≡ got b
    from [] is = absurd (omega (arith, (validly b e).some, ap length is))
    from (m ∷ rest) is =
        let same : record { labels = b.labels; actions = b.actions; marks = m ∷ rest; cells = b.cells } ≡ b = λ i. record { labels = b.labels; actions = b.actions; marks = sym is i; cells = b.cells } in
        subst (λ x. reading site_format (file (site_words x)) ≡ got x) same (reads_back_from b.labels b.actions m rest b.cells (validly _ (ap valid same ∙ e)))

-- the three laws of the site book's layout
pub site_faithful : Faithful site_format (λ b. IsTrue (valid b)) site_words
site_faithful = record {
  places = places_right site_format;
  back = reads_back;
  only = only_encodings site_format (λ b. IsTrue (valid b)) site_words Good written (λ s t w low. word_kept s t w) (λ s w low good. end_word_reads s w) book_kept tt refl;
}
