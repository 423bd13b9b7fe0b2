-- The layout of wish books is faithful: reading the encoding of a valid book gives that book back, and whatever is accepted is the
-- encoding of the book that was read.
use Rattle.std.proofs.Common.{◌≡◌, ℕ, suc, ◌+◌, ◌^◌, ◌<◌, ◌≤◌, IsTrue, true, false, cond, not, eqb, ltb, leb, List, [], ◌∷◌, ◌++◌, length, Ok, sym, refl, ap, ◌∙◌, subst, inl, inr, append_assoc, append-nil, arith, rules, length-append}
use Rattle.std.proofs.lemmas.List.{length_push, length-map, map_push}
use Rattle.std.proofs.lemmas.Bool.{and_parts, ltb-true, cases_Bool, not-true}
use Rattle.formula.specs.declared.Node.{Node}
use Rattle.formula.specs.Formulas.{operands_below, earlier_from, earlier}
use Rattle.formula.proofs.Trees.{earlier-push}
use Rattle.refusal.specs.declared.Refusal.TheVariants.{WrongKind}
use Rattle.words.specs.Words.{kind, end_word}
use Rattle.words.specs.Format.{more, ends, check, onto, got, reading, file, Faithful}
use Rattle.words.specs.Tests.{all, none}
use Rattle.words.proofs.Reading.{places_right}
use Rattle.words.proofs.Encoding.{Passes, passes_append, reads_file, only_encodings}
use Rattle.words.proofs.Tests.{all_push, same_more, check_more, onto_more}
use Rattle.wishlayout.specs.declared.Wish.{Wish}
use Rattle.wishlayout.specs.OneWord.{node_word, wish_word, node_of}
use Rattle.wishlayout.specs.Wishes.{Wishes, items_for, good_label, good_wish, valid}
use Rattle.wishlayout.specs.Layout.{node_words, amount_words, wish_words, Draft, noding, wishing, read_wish, read_word, whole_book, wish_format, written, GoodNodes, Good}
use Rattle.wishlayout.proofs.OneWords.{node_reads, wish_in_reads, node_kind, node_written, wish_written}

some_nodes : (ns : List Node) → none ns ≡ false → 1 ≤ length ns
some_nodes [] e = search rules
some_nodes (n ∷ ns) e = search rules

abbrev Next : Draft → ℕ → Draft → Type 0
Next d w t = Good t × (written t ≡ written d ++ (w ∷ []))

wish_next : (ns : List Node) (ws : List Wish) (w : ℕ) (t : Draft) → GoodNodes ns → 1 ≤ length ns → length ws < 16 → all (good_wish (length ns)) ws ≡ true → read_wish ns ws w ≡ more t → Good t × (written t ≡ (node_words ns ++ amount_words ws) ++ (w ∷ []))
wish_next ns ws w t g some few each e = search (rules, wish_in_reads (length ns) w, all_push (good_wish (length ns)) ws, map_push wish_word ws, append_assoc (node_words ns) (amount_words ws) (w ∷ []), length_push ws)

pub word_kept : (d t : Draft) (w : ℕ) → Good d → read_word d w ≡ more t → Good t × (written t ≡ written d ++ (w ∷ []))
unfolding read_word
word_kept (noding ns) t w g e =
    elim (cases_Bool (eqb (kind w) 10)) [
      | inl is ↦
          let some = check_more (not (none ns)) WrongKind (read_wish ns [] w) t (sym (ap (λ b. cond b (check (not (none ns)) WrongKind (read_wish ns [] w)) (check (ltb (length ns) 128) WrongKind (onto (node_of (length ns) w) (λ n. more (noding (ns ++ (n ∷ []))))))) is) ∙ e) in
          let told = wish_next ns [] w t g (some_nodes ns (not-true (none ns) some.0)) (omega arith) refl some.1 in
          (told.0, told.1 ∙ ap (λ l. l ++ (w ∷ [])) (append-nil (node_words ns)))
      | inr isnt ↦
          let room = check_more (ltb (length ns) 128) WrongKind (onto (node_of (length ns) w) (λ n. more (noding (ns ++ (n ∷ []))))) t (sym (ap (λ b. cond b (check (not (none ns)) WrongKind (read_wish ns [] w)) (check (ltb (length ns) 128) WrongKind (onto (node_of (length ns) w) (λ n. more (noding (ns ++ (n ∷ []))))))) isnt) ∙ e) in
          let said = onto_more (node_of (length ns) w) (λ n. more (noding (ns ++ (n ∷ [])))) t room.1 in
          let told = node_reads (length ns) w said.0 said.1.0 in
          let long = length_push ns said.0 in
          subst (Next (noding ns) w) (same_more said.1.1) (
            (earlier-push ns said.0 g.0 told.1.0, (all_push good_label ns said.0 g.1.0 told.1.1, omega (arith, ltb-true (length ns) 128 room.0))),
            map_push node_word ns said.0 ∙ ap (λ v. node_words ns ++ (v ∷ [])) (sym told.0),
          )
    ]
word_kept (wishing ns ws) t w g e = search (rules, wish_next ns ws w t)

end_word_reads : (d : Draft) (w : ℕ) → w < 2 ^ 32 → Good d → read_word d w ≡ ends → kind w ≡ 15
unfolding read_word
end_word_reads (noding ns) w low g e = search rules
end_word_reads (wishing ns ws) w low g e = search rules

book_kept : (d : Draft) (b : Wishes) → Good d → whole_book d ≡ Ok b → (valid b ≡ true) × (written d ≡ wish_words b)
unfolding whole_book
book_kept (noding ns) b g e = search rules
book_kept (wishing ns ws) b g e = search rules

-- the way of a valid book

node_step : (before : List Node) (n : Node) → length before < 128 → operands_below (length before) n ≡ true → good_label n ≡ true → read_word (noding before) (node_word n) ≡ more (noding (before ++ (n ∷ [])))
unfolding read_word
node_step before n room o l = search (rules, node_kind (length before) n, node_written (length before) n)

pub way_nodes : (before rest : List Node) → earlier_from (length before) rest ≡ true → all good_label rest ≡ true → length before + length rest ≤ 128 → Passes wish_format (noding before) (node_words rest) (noding (before ++ rest))
way_nodes before [] o l few = ap noding (sym (append-nil before))
way_nodes before (n ∷ rest) o l few =
    let po = and_parts (operands_below (length before) n) (earlier_from (suc (length before)) rest) o in
    let pl = and_parts (good_label n) (all good_label rest) l in
    let long : suc (length before) ≡ length (before ++ (n ∷ [])) = omega (arith, length_push before n) in
    let same : (before ++ (n ∷ [])) ++ rest ≡ before ++ (n ∷ rest) = append_assoc before (n ∷ []) rest in (
      noding (before ++ (n ∷ [])),
      (
        node_step before n (omega arith) po.0 pl.0,
        (
          (node_kind (length before) n (omega arith) po.0 pl.0).1,
          subst (λ l. Passes wish_format (noding (before ++ (n ∷ []))) (node_words rest) (noding l)) same
              (way_nodes (before ++ (n ∷ [])) rest (ap (λ k. earlier_from k rest) (sym long) ∙ po.1) pl.1 (omega arith)),
        ),
      ),
    )

pub first_wish : (n : Node) (ns : List Node) (w : Wish) → length (n ∷ ns) ≤ 128 → good_wish (length (n ∷ ns)) w ≡ true → read_word (noding (n ∷ ns)) (wish_word w) ≡ more (wishing (n ∷ ns) (w ∷ []))
unfolding read_word
first_wish n ns w few good = search (rules, wish_written (length (n ∷ ns)) w)

wish_step : (ns : List Node) (before : List Wish) (w : Wish) → length ns ≤ 128 → length before < 16 → good_wish (length ns) w ≡ true → read_word (wishing ns before) (wish_word w) ≡ more (wishing ns (before ++ (w ∷ [])))
unfolding read_word
wish_step ns before w few room good = search (rules, wish_written (length ns) w)

pub way_wishes : (ns : List Node) (before rest : List Wish) → length ns ≤ 128 → all (good_wish (length ns)) rest ≡ true → length before + length rest ≤ 16 → Passes wish_format (wishing ns before) (amount_words rest) (wishing ns (before ++ rest))
way_wishes ns before [] few good room = ap (wishing ns) (sym (append-nil before))
way_wishes ns before (w ∷ rest) few good room =
    let parts = and_parts (good_wish (length ns) w) (all (good_wish (length ns)) rest) good in
    let long = length_push before w in
    let same : (before ++ (w ∷ [])) ++ rest ≡ before ++ (w ∷ rest) = append_assoc before (w ∷ []) rest in (
      wishing ns (before ++ (w ∷ [])),
      (
        wish_step ns before w few (omega arith) parts.0,
        (
          (wish_written (length ns) w few parts.0).1.1,
          subst (λ l. Passes wish_format (wishing ns (before ++ (w ∷ []))) (amount_words rest) (wishing ns l)) same
              (way_wishes ns (before ++ (w ∷ [])) rest few parts.1 (omega arith)),
        ),
      ),
    )

end_step : (ns : List Node) (ws : List Wish) (n : ℕ) → n < 2 ^ 28 → read_word (wishing ns ws) (end_word n) ≡ ends
unfolding read_word
end_step ns ws n low = search rules

book_step : (ns : List Node) (ws : List Wish) → leb (length (items_for ns ws)) 16 ≡ true → whole_book (wishing ns ws) ≡ Ok (record { nodes = ns; wishes = ws })
unfolding whole_book
book_step ns ws few = search rules

-- what a valid book has, by name
pub record Validly (b : Wishes) : Type 0 where
  pub nodes_some : 1 ≤ length b.nodes
  pub nodes_few : length b.nodes ≤ 128
  pub operands : earlier b.nodes ≡ true
  pub labels : all good_label b.nodes ≡ true
  pub wishes_some : 1 ≤ length b.wishes
  pub wishes_few : length b.wishes ≤ 16
  pub amounts : all (good_wish (length b.nodes)) b.wishes ≡ true
  pub items : leb (length (items_for b.nodes b.wishes)) 16 ≡ true

pub validly : (b : Wishes) → valid b ≡ true → Validly b
validly b e = search rules

reads_back_from : (ns : List Node) (ws : List Wish) → Validly (record { nodes = ns; wishes = ws }) → reading wish_format (file (wish_words (record { nodes = ns; wishes = ws }))) ≡ got (record { nodes = ns; wishes = ws })
reads_back_from [] ws v = absurd (omega (arith, v.nodes_some))
reads_back_from (n ∷ ns) [] v = absurd (omega (arith, v.wishes_some))
reads_back_from (n ∷ ns) (w ∷ ws) v =
    let few = v.nodes_few in
    let room = v.wishes_few in
    let each = and_parts (good_wish (length (n ∷ ns)) w) (all (good_wish (length (n ∷ ns))) ws) v.amounts in
    let size : length (wish_words (record { nodes = n ∷ ns; wishes = w ∷ ws })) < 2 ^ 28 = omega (arith, length-append (node_words (n ∷ ns)) (amount_words (w ∷ ws)), length-map (n ∷ ns) node_word, length-map (w ∷ ws) wish_word, few, room) in
    let nodes = way_nodes [] (n ∷ ns) v.operands v.labels (omega (arith, few)) in
    let wishes : Passes wish_format (noding (n ∷ ns)) (amount_words (w ∷ ws)) (wishing (n ∷ ns) (w ∷ ws)) =
    (wishing (n ∷ ns) (w ∷ []), (first_wish n ns w few each.0, ((wish_written (length (n ∷ ns)) w few each.0).1.1, way_wishes (n ∷ ns) (w ∷ []) ws few each.1 (omega (arith, room))))) in
    reads_file wish_format (wish_words (record { nodes = n ∷ ns; wishes = w ∷ ws })) (wishing (n ∷ ns) (w ∷ ws)) (record { nodes = n ∷ ns; wishes = w ∷ ws })
    (passes_append wish_format (node_words (n ∷ ns)) (amount_words (w ∷ ws)) (noding []) (noding (n ∷ ns)) (wishing (n ∷ ns) (w ∷ ws)) nodes wishes)
    size (end_step (n ∷ ns) (w ∷ ws) (length (wish_words (record { nodes = n ∷ ns; wishes = w ∷ ws }))) size) (book_step (n ∷ ns) (w ∷ ws) v.items)

-- the three laws of the wish book's layout
pub wish_faithful : Faithful wish_format (λ b. IsTrue (valid b)) wish_words
wish_faithful = record {
  places = places_right wish_format;
  back = λ b e. reads_back_from b.nodes b.wishes (validly b e);
  only = only_encodings wish_format (λ b. IsTrue (valid b)) wish_words Good written (λ s t w low. word_kept s t w) end_word_reads book_kept (refl, (refl, omega arith)) refl;
}
