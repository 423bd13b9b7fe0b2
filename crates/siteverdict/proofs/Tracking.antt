-- The state of the pass follows the book that is being read: what one word does to both.
use Rattle.std.proofs.Common.{◌≡◌, ℕ, zero, suc, ◌+◌, ◌-◌, ◌*◌, ◌<◌, ◌≤◌, max, Bool, true, false, cond, not, eqb, List, [], ◌∷◌, ◌++◌, map, length, get_or, replicate, Some, None, Ok, Err, Result, add-zero, ◌||◌, sym, refl, ap, ◌∙◌, subst, lt_of_mul-lt-mul_right, arith}
use Rattle.std.proofs.lemmas.Bool.{eqb-true, eqb-false, lt-ltb, le-ltb, eq-eqb, le-leb, ne_eqb}
use Rattle.std.proofs.lemmas.List.{length_push, map_push, get_or_push, get_or_append_left}
use Rattle.std.proofs.lemmas.List.Sums.{sum_by_push}
use Rattle.std.specs.List.{list_any}
use mir.Val.{bool_byte}
use Rattle.words.specs.Drafts.{Finished}
use Rattle.refusal.specs.declared.Refusal.{Refusal}
use Rattle.refusal.specs.declared.Refusal.TheVariants.{NotRising, NoWait, WrongTotal}
use Rattle.words.specs.Words.{kind}
use Rattle.words.specs.Tests.{none}
use Rattle.words.specs.Format.{Step, more, ends, check, onto}
use Rattle.words.proofs.Tests.{check_passed}
use Rattle.sitelayout.specs.declared.Entry.{Entry}
use Rattle.sitelayout.specs.declared.Head.{Head}
use Rattle.sitelayout.specs.declared.Mark.{Mark}
use Rattle.sitelayout.specs.declared.Move.{Move}
use Rattle.sitelayout.specs.declared.Worth.{Worth}
use Rattle.sitelayout.specs.Site.{taken, total, waits}
use Rattle.sitelayout.specs.OneWord.{reward_of, entry_of, move_of}
use Rattle.sitelayout.specs.Layout.{Draft, marking, listing, moving, place_of, padded, marked, read_entry, moved, read_move, read_word, book_of, whole_book}
use Rattle.sitelayout.proofs.Account.{padded-length, either_way}
use Rattle.siteverdict.specs.declared.Counts.{Counts}
use Rattle.siteverdict.specs.Counting.{size, Counted}
use Rattle.siteverdict.specs.Tracking.{TracksMarks, Tabled, Leads}
use Rattle.siteverdict.proofs.Waiting.{bound-push, moves_filled, waits-append, waits_more, none_filled, waits_all}

-- what a word says that is read well, and what it comes to
module _ {X Y : Type 0} (At : X → Draft → Type 0) (said : Result Y Refusal) (next : Y → Step Draft) where
  leads_on : (y : Y) (answer : Result X Refusal) → said ≡ Ok y → Leads At (next y) answer → Leads At (onto said next) answer
  leads_on y answer e h = subst (λ s. Leads At (onto s next) answer) (sym e) h

module _ {X : Type 0} (At : X → Draft → Type 0) (h : Head) (ms : List Mark) (w : ℕ) (answer : Result X Refusal) where
  pub reward_leads : (k : ℕ) (r : Worth) (d : Draft) → d ≡ marking h ms (Some k) → reward_of w ≡ Ok r → Leads At (more (marked h (ms ++ (record { mask = k; worth = r } ∷ [])))) answer → Leads At (read_word d w) answer
  unfolding read_word
  reward_leads k r d here said on =
      subst (λ x. Leads At (read_word x w) answer) (sym here)
      (leads_on At (reward_of w) (λ r. more (marked h (ms ++ (record { mask = k; worth = r } ∷ [])))) r answer said on)

  module _ (cs : List (List Move)) where
    pub entry_leads : (e : Entry) (d : Draft) → d ≡ listing h ms cs → (kind w ≡ 15 → ⊥) → entry_of h.states h.actions w ≡ Ok e → Leads At (read_entry h ms cs e) answer → Leads At (read_word d w) answer
    unfolding read_word
    entry_leads e d here inside said on =
        subst (λ x. Leads At (read_word x w) answer) (sym here)
        (subst (λ b. Leads At (cond b ends (onto (entry_of h.states h.actions w) (read_entry h ms cs))) answer) (sym (ne_eqb (kind w) 15 inside))
        (leads_on At (entry_of h.states h.actions w) (read_entry h ms cs) e answer said on))

    pub move_leads : (mv : List Move) (due : ℕ) (m : Move) (d : Draft) → d ≡ moving h ms cs mv due → move_of h.states w ≡ Ok m → Leads At (read_move h ms cs mv due m) answer → Leads At (read_word d w) answer
    unfolding read_word
    move_leads mv due m d here said on =
        subst (λ x. Leads At (read_word x w) answer) (sym here)
        (leads_on At (move_of h.states w) (read_move h ms cs mv due) m answer said on)

    pub entry_on : (e : Entry) → length cs ≤ place_of h e → Leads At (more (moving h ms (padded (place_of h e) cs) [] (e.outcomes - 1))) answer → Leads At (read_entry h ms cs e) answer
    entry_on e up on = subst (λ st. Leads At st answer) (sym (check_passed _ NotRising _ (le-leb (length cs) (place_of h e) up))) on

    pub move_on : (mv : List Move) (due : ℕ) (m : Move) → taken m.target mv ≡ false → Leads At (moved h ms cs (mv ++ (m ∷ [])) due) answer → Leads At (read_move h ms cs mv due m) answer
    move_on mv due m new on = subst (λ st. Leads At st answer) (sym (check_passed _ NotRising _ (ap not new))) on

pub move_twice : {X : Type 0} (At : X → Draft → Type 0) (h : Head) (ms : List Mark) (cs : List (List Move)) (mv : List Move) (due : ℕ) (m : Move) → taken m.target mv ≡ true → Leads At (read_move h ms cs mv due m) (Err NotRising)
move_twice At h ms cs mv due m twice = subst (λ b. Leads At (check (not b) NotRising (moved h ms cs (mv ++ (m ∷ [])) due)) (Err NotRising)) (sym twice) refl

-- the entry has more outcomes, or this is its last, and the weights total 8 or not
module _ {X : Type 0} (At : X → Draft → Type 0) (h : Head) (ms : List Mark) (cs : List (List Move)) (mv : List Move) where
  pub moved_due : (answer : Result X Refusal) (due : ℕ) → 0 < due → Leads At (more (moving h ms cs mv (due - 1))) answer → Leads At (moved h ms cs mv due) answer
  moved_due answer zero some on = absurd (omega arith)
  moved_due answer (suc k) some on = subst (λ n. Leads At (more (moving h ms cs mv n)) answer) (omega arith) on

  pub moved_wrong : (due : ℕ) → due ≤ 0 → (total mv ≡ 8 → ⊥) → Leads At (moved h ms cs mv due) (Err WrongTotal)
  moved_wrong zero last other = subst (λ b. Leads At (check b WrongTotal (more (listing h ms (cs ++ (mv ∷ []))))) (Err WrongTotal)) (sym (ne_eqb (total mv) 8 other)) refl
  moved_wrong (suc k) last other = absurd (omega arith)

  pub moved_right : (answer : Result X Refusal) (due : ℕ) → due ≤ 0 → total mv ≡ 8 → Leads At (more (listing h ms (cs ++ (mv ∷ [])))) answer → Leads At (moved h ms cs mv due) answer
  moved_right answer zero last eight on = subst (λ st. Leads At st answer) (sym (check_passed _ WrongTotal _ (eq-eqb (total mv) 8 eight))) on
  moved_right answer (suc k) last eight on = absurd (omega arith)

-- one state more
pub mark_more : (h : Head) (n most top : ℕ) (ms : List Mark) (mark : Mark) → TracksMarks h n most ms → n + 1 < h.states → top ≡ max most (size mark.worth.raised) → (ns : List Mark) × ((marked h (ms ++ (mark ∷ [])) ≡ marking h ns None) × TracksMarks h (n + 1) top ns)
mark_more h n most top ms mark of room most_is =
    let long : length (ms ++ (mark ∷ [])) ≡ n + 1 = omega (arith, length_push ms mark, of.read) in (
      ms ++ (mark ∷ []),
      (
        ap (λ b. cond b (marking h (ms ++ (mark ∷ [])) None) (listing h (ms ++ (mark ∷ [])) [])) (lt-ltb (length (ms ++ (mark ∷ []))) h.states (omega arith)),
        record { acts = of.acts; read = long; bound = bound-push ms mark ∙ ap (λ n. max n (size mark.worth.raised)) of.bound ∙ sym most_is },
      ),
    )

-- the last one: no entry is read yet
pub mark_last : (h : Head) (n most top : ℕ) (ms : List Mark) (mark : Mark) → TracksMarks h n most ms → n < h.states → h.states ≤ n + 1 → top ≡ max most (size mark.worth.raised)
    → (ns : List Mark) × ((cs : List (List Move)) × ((marked h (ms ++ (mark ∷ [])) ≡ listing h ns cs) × Tabled (record { head = h; moves = 0; bound = top }) 0 0 ns cs))
mark_last h n most top ms mark of room last most_is =
    let long : length (ms ++ (mark ∷ [])) ≡ h.states = omega (arith, length_push ms mark, of.read) in (
      ms ++ (mark ∷ []),
      (
        [],
        (
          ap (λ b. cond b (marking h (ms ++ (mark ∷ [])) None) (listing h (ms ++ (mark ∷ [])) [])) (le-ltb (length (ms ++ (mark ∷ []))) h.states (omega arith)),
          record {
            acts = of.acts;
            read = long;
            bound = bound-push ms mark ∙ ap (λ n. max n (size mark.worth.raised)) of.bound ∙ sym most_is;
            cells = refl;
            moves = refl;
            waiting = refl;
            next = λ h. absurd (omega arith);
            within = omega arith;
          },
        ),
      ),
    )

-- an entry is opened at its place
pub tabled_padded : (c : Counts) (n w place : ℕ) (ms : List Mark) (cs : List (List Move)) → Tabled c n w ms cs → n ≤ place → Tabled c place w ms (padded place cs)
tabled_padded c n w place ms cs of up = record {
  acts = of.acts;
  read = of.read;
  bound = of.bound;
  cells = padded-length place cs (omega (arith, of.cells));
  moves = moves_filled cs (place - length cs) ∙ of.moves;
  waiting = waits-append c.head.actions w cs (replicate (place - length cs) []) of.waiting;
  next = λ _. none_filled cs (place - length cs) (w * c.head.actions) of.next;
  within = of.within;
}

-- a whole entry goes into the table
module _ (c : Counts) (n w : ℕ) (ms : List Mark) (cs : List (List Move)) (mv : List Move) (count : ℕ) (of : Tabled c n w ms cs) (room : n < c.head.states * c.head.actions) (some : none mv ≡ false) (long : length mv ≡ count) where
  closed_table : (v : ℕ) → waits c.head.actions v (cs ++ (mv ∷ [])) ≡ true → (v * c.head.actions < length (cs ++ (mv ∷ [])) → get_or (cs ++ (mv ∷ [])) (v * c.head.actions) [] ≡ []) → v ≤ c.head.states
      → Tabled (record { head = c.head; moves = c.moves + count; bound = c.bound }) (n + 1) v ms (cs ++ (mv ∷ []))
  closed_table v waiting next within = record {
    acts = of.acts;
    read = of.read;
    bound = of.bound;
    cells = omega (arith, length_push cs mv, of.cells);
    moves = omega (arith, sum_by_push length cs mv, of.moves);
    waiting = waiting;
    next = next;
    within = within;
  }

  -- of the first state that was not known to offer action 0
  pub close_next : n ≡ w * c.head.actions → Tabled (record { head = c.head; moves = c.moves + count; bound = c.bound }) (n + 1) (w + 1) ms (cs ++ (mv ∷ []))
  close_next here =
      let same : length cs ≡ w * c.head.actions = of.cells ∙ here in
      let offered : not (none (get_or (cs ++ (mv ∷ [])) (w * c.head.actions) [])) ≡ true = ap (λ (x : List Move). not (none x)) (get_or_push cs mv [] (w * c.head.actions) same) ∙ ap not some in
      let up : (w + 1) * c.head.actions ≡ w * c.head.actions + c.head.actions = omega arith in
      closed_table (w + 1)
      (waits_more c.head.actions w (cs ++ (mv ∷ [])) (waits-append c.head.actions w cs (mv ∷ []) of.waiting) offered)
      (λ h. absurd (omega (arith, h, up, same, length_push cs mv, of.acts)))
      (let below : w < c.head.states = lt_of_mul-lt-mul_right c.head.actions {m = w} {n = c.head.states} (omega (arith, room, here)) in omega arith)

  -- of any other state or action
  pub close_other : (n ≡ w * c.head.actions → ⊥) → Tabled (record { head = c.head; moves = c.moves + count; bound = c.bound }) (n + 1) w ms (cs ++ (mv ∷ []))
  close_other other =
      closed_table w
      (waits-append c.head.actions w cs (mv ∷ []) of.waiting)
      (λ h.
      let below : w * c.head.actions < length cs = omega (arith, h, other, length_push cs mv, of.cells) in
      get_or_append_left cs (mv ∷ []) [] (w * c.head.actions) below ∙ of.next below)
      of.within

  pub close_by : (b : Bool) → eqb n (w * c.head.actions) ≡ b → Tabled (record { head = c.head; moves = c.moves + count; bound = c.bound }) (n + 1) (w + bool_byte b) ms (cs ++ (mv ∷ []))
  close_by true e = close_next (eqb-true n (w * c.head.actions) e)
  close_by false e = subst (λ k. Tabled (record { head = c.head; moves = c.moves + count; bound = c.bound }) (n + 1) k ms (cs ++ (mv ∷ []))) (sym (add-zero w)) (close_other (eqb-false n (w * c.head.actions) e))

-- the targets so far, as the pass keeps them
taken_is : (t : ℕ) (mv : List Move) → taken t mv ≡ list_any (λ y. eqb y t) (map (λ (m : Move). m.target) mv)
taken_is t [] = refl
taken_is t (m ∷ mv) = (λ i. either_way t m.target i || taken_is t mv i)

pub taken_by : (t : ℕ) (mv : List Move) (ts : List ℕ) (b : Bool) → map (λ (m : Move). m.target) mv ≡ ts → b ≡ list_any (λ y. eqb y t) ts → taken t mv ≡ b
taken_by t mv ts b same is = taken_is t mv ∙ ap (list_any (λ y. eqb y t)) same ∙ sym is

pub targets-push : (mv : List Move) (m : Move) (ts us : List ℕ) → map (λ (m : Move). m.target) mv ≡ ts → us ≡ ts ++ (m.target ∷ []) → map (λ (m : Move). m.target) (mv ++ (m ∷ [])) ≡ us
targets-push mv m ts us same is = map_push (λ (m : Move). m.target) mv m ∙ ap (λ l. l ++ (m.target ∷ [])) same ∙ sym is

pub weight-push : (mv : List Move) (m : Move) (n : ℕ) → total mv ≡ n → total (mv ++ (m ∷ [])) ≡ n + m.weight
weight-push mv m n same = sum_by_push (λ (m : Move). m.weight) mv m ∙ ap (λ n. n + m.weight) same

-- the end word
module _ (c : Counts) (n w : ℕ) (ms : List Mark) (cs : List (List Move)) (of : Tabled c n w ms cs) (d : Draft) (here : d ≡ listing c.head ms cs) where
  abbrev Ends : Result Counts Refusal → Draft → Type 0
  Ends answer d = Finished Counted (whole_book d) answer

  by_waits : (answer : Result Counts Refusal) → Finished Counted (cond (eqb w c.head.states) (Ok (book_of c.head ms cs)) (Err NoWait)) answer → Ends answer d
  unfolding whole_book
  by_waits answer on =
      let whole = waits_all c.head.actions c.head.states w cs (c.head.states * c.head.actions - length cs) of.waiting of.next of.within in
      subst (Ends answer) (sym here) (subst (λ b. Finished Counted (cond b (Ok (book_of c.head ms cs)) (Err NoWait)) answer) (sym whole) on)

  pub end_waits : w ≡ c.head.states → Finished Counted (whole_book d) (Ok c)
  end_waits e =
      by_waits (Ok c) (subst (λ b. Finished Counted (cond b (Ok (book_of c.head ms cs)) (Err NoWait)) (Ok c)) (sym (eq-eqb w c.head.states e))
      (record { states = sym of.read; labels = refl; actions = refl; moves = sym (moves_filled cs (c.head.states * c.head.actions - length cs) ∙ of.moves); bound = sym of.bound }))

  pub end_no_wait : (w ≡ c.head.states → ⊥) → Finished Counted (whole_book d) (Err NoWait)
  end_no_wait e = by_waits (Err NoWait) (subst (λ b. Finished Counted (cond b (Ok (book_of c.head ms cs)) (Err NoWait)) (Err NoWait)) (sym (ne_eqb w c.head.states e)) refl)
