-- The tables follow the draft of the book that is being read, and at the end they hold the book. For others: `Storing`, what
-- is known of the pass so far, and the `storing_` lemmas, one for each thing that the pass does.
use Rattle.std.proofs.Common.{◌≡◌, ℕ, zero, suc, ◌+◌, ◌-◌, ◌*◌, ◌<◌, ◌≤◌, true, not, eqb, ltb, leb, List, [], ◌∷◌, ◌++◌, length, take, drop, replicate, Some, None, Ok, sym, refl, ap, ◌∙◌, subst, inl, inr, arith, rules}
use Rattle.std.proofs.Math.Seq.{take-nil}
use Rattle.std.proofs.lemmas.List.{append_assoc, replicate_more, take_all}
use Rattle.std.proofs.lemmas.Bool.{cases_Bool, leb-true, cond-true, cond-false}
use Rattle.refusal.specs.declared.Refusal.TheVariants.{WrongTotal, NotRising}
use Rattle.words.specs.Words.{kind, first_word}
use Rattle.words.specs.Format.{Step, wrong, more, ends, onto, got, run, reading}
use Rattle.words.proofs.Encoding.{stop_is_no_book, whole_of}
use Rattle.words.proofs.Reading.{after, run_short, turn}
use Rattle.words.proofs.Tests.{same_more, onto_more, check_more}
use Rattle.sitelayout.specs.declared.Entry.{Entry}
use Rattle.sitelayout.specs.declared.Head.{Head}
use Rattle.sitelayout.specs.declared.Mark.{Mark}
use Rattle.sitelayout.specs.declared.Move.{Move}
use Rattle.sitelayout.specs.declared.kind.Kind.TheVariants.{End}
use Rattle.sitelayout.specs.Kinds.{numbered, kind_of}
use Rattle.sitelayout.specs.OneWord.{entry_in, head_of, mask_of, reward_of, entry_of, move_of}
use Rattle.sitelayout.specs.Site.{Site, taken, total, valid}
use Rattle.sitelayout.specs.Layout as layout
use Rattle.sitelayout.specs.Layout.{Draft, fresh, marking, listing, moving, place_of, padded, marked, read_entry, moved, read_move, read_word, whole_book, site_format, Good}
use Rattle.sitelayout.proofs.Account.{more_is_no_end, word_kept, end_word_reads, whole_book_is, book_kept}
use Rattle.sitelayout.proofs.OneWords.{head_fields, mask_fields, reward_fields, entry_fields, move_fields}
use Rattle.siteverdict.specs.declared.Counts.{Counts}
use Rattle.siteverdict.specs.Counting.{bound_of, moves_in, Counted}
use Rattle.siteverdict.proofs.Waiting.{moves_filled}
use Rattle.sitebook.specs.Storing.{Held, nothing, filled, with_head, with_mask, with_mark, with_entry, with_move, put_as, put_of, book_of}
use Rattle.sitebook.specs.Tables.{cut}
use Rattle.sitebook.proofs.Cells.{take_push, take_filled, flat, flat-length, flat_filled, flat-push, starts_of, starts-length, starts_filled, starts-push, cut_whole}

-- all: the counts of the book, for which there is room
module _ (all : Counts) where
  -- how many cells there is room for
  abbrev n : ℕ
  n = all.head.states * all.head.actions

  pub record Keeps (h : Held) (head : Head) (ms : List Mark) (cs : List (List Move)) : Type 0 where
    pub labels : h.labels ≡ head.labels
    pub actions : h.actions ≡ head.actions
    pub states : h.states ≡ all.head.states
    pub cells : h.cells ≡ n
    pub outcomes : h.outcomes ≡ all.moves
    pub marks : h.marks ≡ take all.head.states ms
    pub starts : h.starts ≡ take n (starts_of all.moves 0 cs)
    pub moves : h.moves ≡ take all.moves (flat cs)

  abbrev pub Stores : Held → Draft → Type 0
  Stores h fresh = h ≡ nothing all
  Stores h (marking head ms None) = Keeps h head ms []
  Stores h (marking head ms (Some k)) = Keeps h head ms [] × (h.mask ≡ k)
  Stores h (listing head ms cs) = Keeps h head ms cs
  Stores h (moving head ms cs mv due) = Keeps h head ms (cs ++ (mv ∷ []))

  stores_marked : (h : Held) (head : Head) (ms : List Mark) → Keeps h head ms [] → Stores h (marked head ms)
  stores_marked h head ms of =
      elim (cases_Bool (ltb (length ms) head.states)) [
        | inl t ↦ subst (Stores h) (sym (cond-true _ (marking head ms None) (listing head ms []) t)) of
        | inr t ↦ subst (Stores h) (sym (cond-false _ (marking head ms None) (listing head ms []) t)) of
      ]

  -- an entry begins its cell, and those that it passes over
  stores_entry : (h : Held) (head : Head) (ms : List Mark) (cs : List (List Move)) (w : ℕ) (x : Entry) (e : Draft) → Keeps h head ms cs → entry_of head.states head.actions w ≡ Ok x → read_entry head ms cs x ≡ more e → (kind w ≡ 4) × Stores (with_entry h w) e
  stores_entry h head ms cs w x e of said is =
      let s = entry_fields head.states head.actions w x said in
      let passed = check_more (leb (length cs) (place_of head x)) NotRising (more (moving head ms (padded (place_of head x) cs) [] (x.outcomes - 1))) e is in
      let k : ℕ = place_of head x in
      let place : (entry_in w).state * h.actions + (entry_in w).action ≡ k = (λ i. (s.3 i).state * of.actions i + (s.3 i).action) in
      let missing : k + 1 - length (starts_of all.moves 0 cs) ≡ k - length cs + 1 = omega (arith, starts-length all.moves 0 cs, leb-true (length cs) k passed.0) in
      let cells : padded k cs ++ ([] ∷ []) ≡ cs ++ replicate (k - length cs + 1) [] =
      append_assoc cs (replicate (k - length cs) []) ([] ∷ []) ∙ ap (λ l. cs ++ l) (replicate_more (k - length cs) []) in (
        s.0,
        subst (Stores (with_entry h w)) (same_more passed.1) (record {
          labels = of.labels;
          actions = of.actions;
          states = of.states;
          cells = of.cells;
          outcomes = of.outcomes;
          marks = of.marks;
          starts = (λ i. filled (of.cells i) (place i + 1) (length (of.moves i)) (of.starts i))
              ∙ take_filled n (k + 1) (starts_of all.moves 0 cs) (length (take all.moves (flat cs)))
              ∙ ap (λ j. take n (starts_of all.moves 0 cs ++ replicate j (length (take all.moves (flat cs))))) missing
              ∙ ap (take n) (sym (ap (starts_of all.moves 0) cells ∙ starts_filled all.moves cs (k - length cs + 1)));
          moves = of.moves ∙ ap (take all.moves) (sym (ap flat cells ∙ flat_filled cs (k - length cs + 1)));
        }),
      )

  stores_moved : (h : Held) (head : Head) (ms : List Mark) (cs : List (List Move)) (mv : List Move) (due : ℕ) (e : Draft) → Keeps h head ms (cs ++ (mv ∷ [])) → moved head ms cs mv due ≡ more e → Stores h e
  stores_moved h head ms cs mv zero e of is =
      let passed = check_more (eqb (total mv) 8) WrongTotal (more (listing head ms (cs ++ (mv ∷ [])))) e is in
      subst (Stores h) (same_more passed.1) of
  stores_moved h head ms cs mv (suc due) e of is = subst (Stores h) (same_more is) of

  stores_move : (h : Held) (head : Head) (ms : List Mark) (cs : List (List Move)) (mv : List Move) (due w : ℕ) (x : Move) (e : Draft) → Keeps h head ms (cs ++ (mv ∷ [])) → move_of head.states w ≡ Ok x → read_move head ms cs mv due x ≡ more e → (kind w ≡ 5) × Stores (with_move h w) e
  stores_move h head ms cs mv due w x e of said is =
      let s = move_fields head.states w x said in
      let passed = check_more (not (taken x.target mv)) NotRising (moved head ms cs (mv ++ (x ∷ [])) due) e is in (
        s.0,
        stores_moved (with_move h w) head ms cs (mv ++ (x ∷ [])) due e (record {
          labels = of.labels;
          actions = of.actions;
          states = of.states;
          cells = of.cells;
          outcomes = of.outcomes;
          marks = of.marks;
          starts = of.starts ∙ ap (take n) (starts-push all.moves cs mv (mv ++ (x ∷ [])));
          moves = (λ i. take (of.outcomes i) (of.moves i ++ (s.3 i ∷ []))) ∙ take_push all.moves (flat (cs ++ (mv ∷ []))) x ∙ ap (take all.moves) (sym (flat-push cs mv x));
        }) passed.1,
      )

  -- what one word does, by its kind
  pub stores_step : (h : Held) (d e : Draft) (w : ℕ) → Stores h d → read_word d w ≡ more e → (kind w < 15) × Stores (put_of h w) e
  unfolding read_word
  stores_step h fresh e w of is =
      let said = onto_more (head_of w) (λ x. more (marking x [] None)) e is in
      let s = head_fields w said.0 said.1.0 in (
        omega (arith, s.0),
        subst (λ k. Stores (put_as k h w) e) (sym (ap numbered s.0)) (subst (Stores (with_head h w)) (same_more said.1.1) (record {
          labels = ap (λ (x : Head). x.labels) s.3;
          actions = ap (λ (x : Head). x.actions) s.3;
          states = ap (λ (x : Held). x.states) of;
          cells = ap (λ (x : Held). x.cells) of;
          outcomes = ap (λ (x : Held). x.outcomes) of;
          marks = ap (λ (x : Held). x.marks) of ∙ sym (take-nil all.head.states);
          starts = ap (λ (x : Held). x.starts) of ∙ sym (take-nil n);
          moves = ap (λ (x : Held). x.moves) of ∙ sym (take-nil all.moves);
        })),
      )
  stores_step h (marking head ms None) e w of is =
      let said = onto_more (mask_of head.labels w) (λ m. more (marking head ms (Some m))) e is in
      let s = mask_fields head.labels w said.0 said.1.0 in (
        omega (arith, s.0),
        subst (λ k. Stores (put_as k h w) e) (sym (ap numbered s.0)) (subst (Stores (with_mask h w)) (same_more said.1.1)
            (record { labels = of.labels; actions = of.actions; states = of.states; cells = of.cells; outcomes = of.outcomes; marks = of.marks; starts = of.starts; moves = of.moves }, s.3)),
      )
  stores_step h (marking head ms (Some k)) e w of is =
      let said = onto_more (reward_of w) (λ r. more (marked head (ms ++ (record { mask = k; worth = r } ∷ [])))) e is in
      let s = reward_fields w said.0 said.1.0 in
      let kept = of.0 in (
        omega (arith, s.0),
        subst (λ n. Stores (put_as n h w) e) (sym (ap numbered s.0)) (subst (Stores (with_mark h w)) (same_more said.1.1)
            (stores_marked (with_mark h w) head (ms ++ (record { mask = k; worth = said.0 } ∷ []))
            (record {
              labels = kept.labels;
              actions = kept.actions;
              states = kept.states;
              cells = kept.cells;
              outcomes = kept.outcomes;
              marks = (λ i. take (kept.states i) (kept.marks i ++ (record { mask = of.1 i; worth = s.3 i } ∷ []))) ∙ take_push all.head.states ms (record { mask = k; worth = said.0 });
              starts = kept.starts;
              moves = kept.moves;
            }))),
      )
  stores_step h (listing head ms cs) e w of is =
      elim (cases_Bool (eqb (kind w) 15)) [
        | inl t ↦ absurd (more_is_no_end (sym is ∙ cond-true _ ends (onto (entry_of head.states head.actions w) (read_entry head ms cs)) t))
        | inr t ↦
            let said = onto_more (entry_of head.states head.actions w) (read_entry head ms cs) e (sym (cond-false _ ends (onto (entry_of head.states head.actions w) (read_entry head ms cs)) t) ∙ is) in
            let s = stores_entry h head ms cs w said.0 e of said.1.0 said.1.1 in
            (omega (arith, s.0), subst (λ k. Stores (put_as k h w) e) (sym (ap numbered s.0)) s.1)
      ]
  stores_step h (moving head ms cs mv due) e w of is =
      let said = onto_more (move_of head.states w) (read_move head ms cs mv due) e is in
      let s = stores_move h head ms cs mv due w said.0 e of said.1.0 said.1.1 in
      (omega (arith, s.0), subst (λ k. Stores (put_as k h w) e) (sym (ap numbered s.0)) s.1)

-- the tables at the end of the entries, where the book's counts are all's
book_at_end : (all : Counts) (h : Held) (head : Head) (ms : List Mark) (cs : List (List Move)) → Keeps all h head ms cs → length ms ≡ head.states → all.head.states ≡ head.states → all.head.actions ≡ head.actions → all.moves ≡ length (flat cs) → length cs ≤ head.states * head.actions
    → book_of h ≡ layout.book_of head ms cs
book_at_end all h head ms cs of long states actions outcomes few =
    let marks : h.marks ≡ ms = of.marks ∙ take_all all.head.states ms (omega (arith, long, states)) in
    let room : all.head.states * all.head.actions ≡ head.states * head.actions = (λ i. states i * actions i) in
    let starts : h.starts ≡ starts_of all.moves 0 cs = of.starts ∙ take_all (all.head.states * all.head.actions) (starts_of all.moves 0 cs) (omega (arith, room, starts-length all.moves 0 cs, few)) in
    let moves : h.moves ≡ flat cs = of.moves ∙ take_all all.moves (flat cs) (omega (arith, outcomes)) in
    let states : length h.marks ≡ head.states = ap length marks ∙ long in
    let cells : cut (head.states * head.actions) (starts_of all.moves 0 cs) (flat cs) ≡ padded (head.states * head.actions) cs =
    cut_whole all.moves (head.states * head.actions) 0 cs [] refl (omega (arith, outcomes)) few in
    λ i. record { labels = of.labels i; actions = of.actions i; marks = marks i; cells = ((λ i. cut (states i * of.actions i) (starts i) (moves i)) ∙ cells) i }

-- no other word has the end word's kind
end_kind : (n : ℕ) → numbered n ≡ Ok End → n ≡ 15
end_kind n e = grind (arith, e)

-- the pass so far: the tables follow a draft, from which reading on gives the book
pub record Storing (bytes rest : List ℕ) (place : ℕ) (c : Counts) (h : Held) : Type 0 where
  pub book : Site
  pub read : reading site_format bytes ≡ got book
  pub counted : Counted c book
  pub draft : Draft
  pub good : Good draft
  pub kept : Stores c h draft
  pub left : run site_format draft place rest ≡ got book

module _ (bytes rest : List ℕ) (place : ℕ) (c : Counts) (h : Held) (s : Storing bytes rest place c h) where
  -- the book does not end without an end word
  pub storing_long : length rest < 4 → ⊥
  storing_long short = stop_is_no_book (sym (run_short site_format s.draft place rest short) ∙ s.left)

  module _ (next : List ℕ) (w : ℕ) (four : 4 ≤ length rest) (word : w ≡ first_word rest) (after-it : next ≡ drop 4 rest) where
    here : after site_format s.draft place w next (read_word s.draft w) ≡ got s.book
    here =
        sym (turn site_format s.draft place rest next w (read_word s.draft w) (four, word, after-it) refl) ∙ s.left

    more_by : (st : Step Draft) → read_word s.draft w ≡ st → (kind_of w ≡ Ok End → ⊥) → Storing bytes next (place + 1) c (put_of h w)
    more_by (wrong r) is inside = absurd (stop_is_no_book (sym (ap (after site_format s.draft place w next) is) ∙ here))
    more_by ends is inside = absurd (inside (ap numbered (end_word_reads s.draft w is)))
    more_by (more e) is inside = record {
      book = s.book;
      read = s.read;
      counted = s.counted;
      draft = e;
      good = (word_kept s.draft e w s.good is).0;
      kept = (stores_step c h s.draft e w s.kept is).1;
      left = sym (ap (after site_format s.draft place w next) is) ∙ here;
    }

    pub storing_more : (kind_of w ≡ Ok End → ⊥) → Storing bytes next (place + 1) c (put_of h w)
    storing_more inside = more_by (read_word s.draft w) refl inside

    abbrev pub Closes : Type 0
    Closes = (reading site_format bytes ≡ got (book_of h)) × (valid (book_of h) ≡ true) × (c.bound ≡ bound_of h.marks)

    closes_table : (d : Draft) → Good d → Stores c h d → whole_book d ≡ Ok s.book → Closes
    unfolding whole_book
    closes_table fresh good kept whole = search rules
    closes_table (marking head ms o) good kept whole = search rules
    closes_table (moving head ms cs mv due) good kept whole = search rules
    closes_table (listing head ms cs) good kept whole =
        let same = (whole_book_is head ms cs s.book whole).1 in
        let states : c.head.states ≡ head.states = s.counted.states ∙ ap (λ (b : Site). length b.marks) (sym same) ∙ good.1.0 in
        let actions : c.head.actions ≡ head.actions = s.counted.actions ∙ ap (λ (b : Site). b.actions) (sym same) in
        let outcomes : c.moves ≡ length (flat cs) =
        s.counted.moves ∙ ap (λ (b : Site). moves_in b.cells) (sym same) ∙ moves_filled cs (head.states * head.actions - length cs) ∙ sym (flat-length cs) in
        let is : book_of h ≡ s.book = book_at_end c h head ms cs kept good.1.0 states actions outcomes good.1.1.1.0 ∙ same in (
          s.read ∙ ap (λ (b : Site). got b) (sym is),
          ap valid is ∙ (book_kept (listing head ms cs) s.book good whole).0,
          s.counted.bound ∙ ap (λ (b : Site). bound_of b.marks) (sym is),
        )

    closes_by : (st : Step Draft) → read_word s.draft w ≡ st → kind_of w ≡ Ok End → Closes
    closes_by (wrong r) is end = absurd (stop_is_no_book (sym (ap (after site_format s.draft place w next) is) ∙ here))
    closes_by (more e) is end = absurd (omega (arith, (stores_step c h s.draft e w s.kept is).0, end_kind (kind w) end))
    closes_by ends is end =
        closes_table s.draft s.good s.kept
        (whole_of (whole_book s.draft) place w next s.book (sym (ap (after site_format s.draft place w next) is) ∙ here)).2

    pub storing_end : kind_of w ≡ Ok End → Closes
    storing_end end = closes_by (read_word s.draft w) refl end
