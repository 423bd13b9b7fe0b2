-- The whole book in its table, and both tables after writing out.
use Rattle.std.proofs.Common.{◌≡◌, ℕ, ◌-◌, ◌*◌, ◌≤◌, true, false, ltb, List, [], ◌∷◌, ◌++◌, map, length, drop, replicate, Some, None, Option, sym, ap, ◌∙◌, subst, ⊎_elim, arith}
use Rattle.std.specs.Option.{OnSome}
use Rattle.std.proofs.lemmas.List.{length-map, take-append-drop, drop-replicate}
use Rattle.std.proofs.lemmas.Bool.{cases_Bool, cond-true, cond-false, ltb-false}
use Rattle.std.specs.declared.cmp.PartialEq as equality
use Rattle.register.specs.declared.Key as key
use Rattle.register.specs.declared.Register.{Register}
use Rattle.register.specs.Register.{keys_of}
use Rattle.model.specs.Models.{Model, Lawful}
use Rattle.pen.specs.declared.Pen.{Pen}
use Rattle.pen.specs.Bytes.{zero_padded, LaidIn}
use Rattle.pen.specs.Pens.{HasWritten, Adds, counted}
use Rattle.reach.specs.Search.{codes_of}
use Rattle.reach.proofs.Adding.{length-keys_of}
use Rattle.reach.proofs.Searching.{search_lists, search_exceeds, lists_states, lists_targets}
use Rattle.reach.proofs.Turns.{codes_some, codes_first}
use Rattle.sitelayout.specs.Layout.{mark_words, cell_words, site_words}
use Rattle.sitelayout.specs.OneWord.{word_of_head}
use Rattle.sitelayout.specs.Site.{Site}
use Rattle.words.specs.Format.{file}
use Rattle.words.specs.Words.{bytes_of, end_word}
use Rattle.writeout.specs.Book.{mark_of, cells_of, book_of}
use Rattle.writeout.specs.Tables.{Writable, words_in, Represents}
use Rattle.writeout.proofs.Back.{book_reads_back}
use Rattle.writeout.proofs.Carrying.{book_carries}
use Rattle.writeout.proofs.Closed.{Closed}
use Rattle.writeout.proofs.Copying.{book_copies}

-- head, marks and cells are the words of the book
pub laid_book_is : (m : Model) (codes : List ℕ) (states labels actions : ℕ) (p0 p1 p2 p3 : Pen) → states ≡ length codes → labels ≡ m.labels → actions ≡ m.actions
    → HasWritten [] p0 → Adds (word_of_head states labels actions ∷ []) p0 p1 → Adds (mark_words (map (mark_of m) codes)) p1 p2 → Adds (cell_words m.actions 0 (cells_of m codes codes)) p2 p3
    → HasWritten (site_words (book_of m codes)) p3
laid_book_is m codes states labels actions p0 p1 p2 p3 es el ea none head marks cells =
    let said : word_of_head states labels actions ≡ word_of_head (length (map (mark_of m) codes)) m.labels m.actions =
    ap (λ n. word_of_head n labels actions) (es ∙ sym (length-map codes (mark_of m))) ∙ ap (λ n. word_of_head (length (map (mark_of m) codes)) n actions) el ∙ ap (word_of_head (length (map (mark_of m) codes)) m.labels) ea in
    let first : Adds (word_of_head (length (map (mark_of m) codes)) m.labels m.actions ∷ []) p0 p1 = subst (λ w. Adds (w ∷ []) p0 p1) said head in
    cells.laid (word_of_head (length (map (mark_of m) codes)) m.labels m.actions ∷ mark_words (map (mark_of m) codes))
    (marks.laid (word_of_head (length (map (mark_of m) codes)) m.labels m.actions ∷ []) (first.laid [] none))

pub counted_some : (space : ℕ) (ws : List ℕ) (n : ℕ) → counted space ws ≡ Some n → (n ≡ length ws) × (4 * length ws ≤ space)
counted_some space ws n e =
    ⊎_elim
    (λ (t : ltb space (4 * length ws) ≡ true).
    let none : counted space ws ≡ None = cond-true _ None (Some (length ws)) t in
    let z : ◌≡◌ {A = ℕ} 0 1 = cc in
    absurd (omega arith))
    (λ (f : ltb space (4 * length ws) ≡ false).
    let some : counted space ws ≡ Some (length ws) = cond-false _ None (Some (length ws)) f in
    (cc, ltb-false space (4 * length ws) f))
    (cases_Bool (ltb space (4 * length ws)))

laid_bytes : (ws : List ℕ) (n : Option ℕ) (bs : List ℕ) (k : ℕ) → LaidIn ws n bs → Some k ≡ counted (length bs) ws → bs ≡ zero_padded (length bs) (bytes_of ws)
laid_bytes ws (Some n) bs k h e = h.1.1
laid_bytes ws None bs k h e = absurd (omega (arith, h, (counted_some (length bs) ws k (sym e)).1))

-- what a count says of the table
pub written_book : (b : Site) (p : Pen) (space : ℕ) → HasWritten (site_words b ++ (end_word (length (site_words b)) ∷ [])) p → length p.bytes.now ≡ space → (r : Option ℕ) → r ≡ words_in space b → (x : List ℕ) → x ≡ p.bytes.now → OnSome r (x ≡ zero_padded (length x) (file (site_words b)))
written_book b p space laid size None e x x-is = tt
written_book b p space laid size (Some k) e x x-is =
    subst (λ l. l ≡ zero_padded (length l) (file (site_words b))) (sym x-is)
    (laid_bytes (site_words b ++ (end_word (length (site_words b)) ∷ [])) p.words p.bytes.now k laid (e ∙ ap (λ n. words_in n b) (sym size)))

-- the code table after the search
pub codes_left : {k : key.Ghosts ℕ} {e : equality.Ghosts ℕ} (c : Register ℕ k e) (cs before x : List ℕ) → keys_of c ≡ cs → drop c.len c.keys.now ≡ drop c.len before → before ≡ replicate (length before) 0 → length c.keys.now ≡ length before → x ≡ c.keys.now → x ≡ zero_padded (length x) cs
codes_left c cs before x is rest zeros room x-is =
    let size : length before - c.len ≡ length x - length cs = omega (arith, ap length is, length-keys_of c, ap length x-is) in
    let after : drop c.len c.keys.now ≡ replicate (length before - c.len) 0 = rest ∙ ap (drop c.len) zeros ∙ drop-replicate c.len (length before) 0 in
    let table : c.keys.now ≡ cs ++ replicate (length before - c.len) 0 = sym (take-append-drop c.len c.keys.now) ∙ (λ i. is i ++ after i) in
    x-is ∙ table ∙ ap (λ n. cs ++ replicate n 0) size

closed : (m : Model) → Lawful m → Writable m → Closed m (codes_of m)
closed m law few =
    let all = search_lists m law few in
    record {
      once = all.once;
      states = lists_states m law (codes_of m) all;
      targets = lists_targets m law (codes_of m) all;
      every = all.every;
      some = omega (arith, codes_some m);
      few = few;
      first = codes_first m;
    }

pub represents : (m : Model) → Lawful m → Represents m
represents m law = record {
  lists = search_lists m law;
  exceeds = search_exceeds m law;
  back = λ few. book_reads_back m law (codes_of m) (closed m law few);
  copies = λ few. book_copies m law (codes_of m) (closed m law few);
  carries = λ few. book_carries m law (codes_of m) (closed m law few);
}
