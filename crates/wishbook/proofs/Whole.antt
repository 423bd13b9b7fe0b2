-- From what was gathered to the book: the items, that the book is what its words come to, and what the reader answers.
use Rattle.std.proofs.Common.{◌≡◌, ℕ, ◌<◌, true, cond, ltb, leb, List, [], ◌∷◌, map, length, get_or, Some, Ok, Err, Option, Result, sym, refl, ap, ◌∙◌, subst, take, arith, rules}
use Rattle.formula.specs.declared.Node.{Node}
use Rattle.formula.specs.declared.Item.{Item}
use Rattle.formula.specs.declared.merging.Merged.{Merged}
use Rattle.formula.specs.Formulas.{earlier}
use Rattle.formula.specs.Items.{kept_items}
use Rattle.formula.specs.Merging.{nodes_of, numbers_of, Merges, KeepsFormulas}
use Rattle.formula.specs.Resting.{resting}
use Rattle.formula.proofs.Faithful.{faithful}
use Rattle.std.proofs.lemmas.Bool.{and_parts, and_from, ltb-true, lt-ltb, le-leb, lt-leb}
use Rattle.refusal.specs.declared.Refusal.TheVariants.{WrongKind, TooManyItems}
use Rattle.words.specs.Drafts.{Finished}
use Rattle.words.specs.Tests.{all}
use Rattle.wishlayout.specs.declared.Wish.{Wish}
use Rattle.wishlayout.specs.Layout.{Draft, whole_book}
use Rattle.wishlayout.specs.Wishes.{Wishes, items_for, good_wish}
use Rattle.wishlayout.proofs.Way.{validly}
use Rattle.std.proofs.lemmas.List.{take_all}
use Rattle.bounded.proofs.Few.{few}
use Rattle.bounded.specs.Listed.{listed}
use Rattle.bounded.specs.declared.Bounded.{Bounded}
use Rattle.refusal.specs.declared.Refusal.{Refusal}
use Rattle.wishbook.specs.declared.book.WishBook.{WishBook}
use Rattle.wishbook.specs.declared.gathered.Gathered.{Gathered}
use Rattle.wishbook.specs.Gathering.{draft_of}
use Rattle.wishbook.specs.Book.{renamed, book_of, sound, items_over, meant, SameWishes}
use Rattle.wishbook.specs.Contents.{contents}

renamed_roots : (numbers : List ℕ) (ws : List Wish) → map (λ w. w.node) (map (renamed numbers) ws) ≡ map (λ r. get_or numbers r 0) (map (λ w. w.node) ws)
renamed_roots numbers [] = refl
renamed_roots numbers (w ∷ ws) = ap (λ l. get_or numbers w.node 0 ∷ l) (renamed_roots numbers ws)

-- the items over the different nodes are those of the words
pub items_same : (ns : List Node) (ws : List Wish) → items_over (nodes_of ns) (map (renamed (numbers_of ns)) ws) ≡ items_for ns ws
items_same ns ws = ap (λ roots. kept_items (nodes_of ns) (resting (nodes_of ns) roots)) (renamed_roots (numbers_of ns) ws)

renamed_good : (ns : List Node) (ws : List Wish) → KeepsFormulas ns → all (good_wish (length ns)) ws ≡ true → all (good_wish (length (nodes_of ns))) (map (renamed (numbers_of ns)) ws) ≡ true
renamed_good ns [] f each = refl
renamed_good ns (w ∷ ws) f each =
    let parts = and_parts (good_wish (length ns) w) (all (good_wish (length ns)) ws) each in
    let own = and_parts (ltb w.node (length ns)) (ltb w.raised 512) parts.0 in
    and_from (good_wish (length (nodes_of ns)) (renamed (numbers_of ns) w)) (all (good_wish (length (nodes_of ns))) (map (renamed (numbers_of ns)) ws))
    (and_from (ltb (get_or (numbers_of ns) w.node 0) (length (nodes_of ns))) (ltb w.raised 512) (lt-ltb _ _ (f.in_range w.node (ltb-true w.node (length ns) own.0))) own.1)
    (renamed_good ns ws f parts.1)

-- the book's operands number earlier nodes, and its wishes name nodes
pub whole_sound : (ns : List Node) (ws : List Wish) → earlier ns ≡ true → all (good_wish (length ns)) ws ≡ true → sound (nodes_of ns) (map (renamed (numbers_of ns)) ws) ≡ true
whole_sound ns ws e each =
    let f = faithful ns e in
    and_from (earlier (nodes_of ns)) (all (good_wish (length (nodes_of ns))) (map (renamed (numbers_of ns)) ws)) f.still_earlier (renamed_good ns ws f each)

meant_same : (ns : List Node) (ws : List Wish) → KeepsFormulas ns → all (good_wish (length ns)) ws ≡ true → meant (nodes_of ns) (map (renamed (numbers_of ns)) ws) ≡ meant ns ws
meant_same ns [] f each = refl
meant_same ns (w ∷ ws) f each =
    let parts = and_parts (good_wish (length ns) w) (all (good_wish (length ns)) ws) each in
    let own = and_parts (ltb w.node (length ns)) (ltb w.raised 512) parts.0 in
    λ i. (f.same_formula w.node (ltb-true w.node (length ns) own.0) i, w.raised) ∷ meant_same ns ws f parts.1 i

-- a book means what its node words say
pub same_wishes : SameWishes
same_wishes f e = let v = validly f e in meant_same f.nodes f.wishes (faithful f.nodes v.operands) v.amounts

-- a list of at most 16 wishes is its first 16, and what is read as these is the list
pub first_sixteen : (b : Bounded Wish 16) → listed b ≡ take 16 (listed b)
first_sixteen b = sym (take_all 16 (listed b) (few b))

pub read_back : (b : Bounded Wish 16) (ws all : List Wish) → ws ≡ take 16 (listed b) → listed b ≡ all → ws ≡ all
read_back b ws all first is = first ∙ sym (first_sixteen b) ∙ is

pub over_read : (b : Bounded Wish 16) (nodes : List Node) (ws : List Wish) (items : List Item) → items ≡ items_over nodes (listed b) → ws ≡ take 16 (listed b) → items ≡ items_over nodes ws
over_read b nodes ws items told first = told ∙ ap (items_over nodes) (first_sixteen b ∙ sym first)

-- the book of what was gathered

abbrev pub Means : WishBook → Wishes → Type 0
Means book text = contents book ≡ book_of text

module _ (g : Gathered) where
  -- its nodes and wishes, from the answer of merging
  pub parts : (ns : List Node) (ks : List ℕ) (r : Option Merged) (m : Merged) (wishes : List Wish) → ns ≡ listed g.nodes → Merges ns r → r ≡ Some m → ks ≡ listed m.numbers → wishes ≡ map (renamed ks) (listed g.wishes)
      → (listed m.nodes ≡ nodes_of (listed g.nodes)) × (wishes ≡ map (renamed (numbers_of (listed g.nodes))) (listed g.wishes))
  parts ns ks r m wishes read told is numbers all =
      let merged = subst (Merges ns) is told in
      (merged.1 ∙ ap nodes_of read, all ∙ ap (λ l. map (renamed l) (listed g.wishes)) (numbers ∙ merged.2 ∙ ap numbers_of read))

  pub book_sound : (nodes : List Node) (wishes : List Wish) → nodes ≡ nodes_of (listed g.nodes) → wishes ≡ map (renamed (numbers_of (listed g.nodes))) (listed g.wishes) → sound nodes wishes ≡ true
  book_sound nodes wishes e f = (λ i. sound (e i) (f i)) ∙ whole_sound (listed g.nodes) (listed g.wishes) g.good.0.0 g.good.1.0

  items_known : (nodes : List Node) (wishes : List Wish) → nodes ≡ nodes_of (listed g.nodes) → wishes ≡ map (renamed (numbers_of (listed g.nodes))) (listed g.wishes) → items_over nodes wishes ≡ items_for (listed g.nodes) (listed g.wishes)
  items_known nodes wishes e f = (λ i. items_over (e i) (f i)) ∙ items_same (listed g.nodes) (listed g.wishes)

  -- an end word comes only after a wish
  pub unwished : (s : Draft) → length (listed g.wishes) ≡ 0 → draft_of g ≡ s → Finished Means (whole_book s) (Err WrongKind)
  unfolding whole_book
  unwished s z f = search rules

  wished : (s : Draft) (answer : Result WishBook Refusal) → (length (listed g.wishes) ≡ 0 → ⊥) → draft_of g ≡ s
      → Finished Means (cond (leb (length (items_for (listed g.nodes) (listed g.wishes))) 16) (Ok (record { nodes = listed g.nodes; wishes = listed g.wishes })) (Err TooManyItems)) answer → Finished Means (whole_book s) answer
  unfolding whole_book
  wished s answer some f told = search rules

  pub overfull : (s : Draft) (nodes : List Node) (wishes : List Wish) → (length (listed g.wishes) ≡ 0 → ⊥) → draft_of g ≡ s → nodes ≡ nodes_of (listed g.nodes) → wishes ≡ map (renamed (numbers_of (listed g.nodes))) (listed g.wishes)
      → 16 < length (items_over nodes wishes) → Finished Means (whole_book s) (Err TooManyItems)
  overfull s nodes wishes some f en ew many =
      wished s (Err TooManyItems) some f
      (subst (λ t. Finished Means (cond t (Ok (record { nodes = listed g.nodes; wishes = listed g.wishes })) (Err TooManyItems)) (Err TooManyItems))
      (sym (lt-leb (length (items_for (listed g.nodes) (listed g.wishes))) 16 (omega (arith, many, ap length (items_known nodes wishes en ew))))) refl)

  pub made : (s : Draft) (b : WishBook) → (length (listed g.wishes) ≡ 0 → ⊥) → draft_of g ≡ s → listed b.nodes ≡ nodes_of (listed g.nodes) → listed b.wishes ≡ map (renamed (numbers_of (listed g.nodes))) (listed g.wishes)
      → Finished Means (whole_book s) (Ok b)
  made s b some f en ew =
      let items : listed b.items ≡ items_for (listed g.nodes) (listed g.wishes) = b.remembers ∙ items_known (listed b.nodes) (listed b.wishes) en ew in
      wished s (Ok b) some f
      (subst (λ t. Finished Means (cond t (Ok (record { nodes = listed g.nodes; wishes = listed g.wishes })) (Err TooManyItems)) (Ok b))
      (sym (le-leb (length (items_for (listed g.nodes) (listed g.wishes))) 16 (omega (arith, ap length items, few b.items))))
      (λ i. record { nodes = en i; wishes = ew i; items = items i }))
