-- What the pass over the nodes lists: one node more, the end, and where there is no room.
use Rattle.std.proofs.Common.{◌≡◌, ℕ, zero, suc, ◌+◌, ◌<◌, ◌≤◌, Bool, true, false, cond, ◌&&◌, ◌||◌, ◌⊎◌, List, [], ◌∷◌, ◌++◌, length, get_or, drop, None, Option, sym, refl, ap, ◌∙◌, subst, inl, inr, arith, rules}
use Rattle.std.proofs.lemmas.List.{append-nil, append_assoc, length-append, length-drop, length_push, get_or-drop, drop-drop}
use Rattle.std.proofs.lemmas.Bool.{both_ways, cases_lt}
use Rattle.bounded.specs.declared.Bounded.{Bounded}
use Rattle.formula.specs.declared.Node.{Node}
use Rattle.formula.specs.declared.Node.TheVariants.{True}
use Rattle.formula.specs.declared.Item.{Item}
use Rattle.formula.specs.declared.Item.TheVariants.{Held, Failed}
use Rattle.formula.specs.Items.{lasting, is_always, back_below, items_at, items_below, kept_items, ListsItems}
use Rattle.formula.proofs.Passes.{items_past}

-- an item that is wanted comes last,
pub wanted : (b : Bool) (x : Item) (xs ys : List Item) → b ≡ true → ys ≡ xs ++ (x ∷ []) → ys ≡ xs ++ cond b (x ∷ []) []
wanted true x xs ys e more = more
wanted false x xs ys e more = absurd (both_ways false refl e)

-- and one that is not changes nothing
pub unwanted : (b : Bool) (x : Item) (xs ys : List Item) → b ≡ false → ys ≡ xs → ys ≡ xs ++ cond b (x ∷ []) []
unwanted true x xs ys e same = absurd (both_ways true e refl)
unwanted false x xs ys e same = same ∙ sym (append-nil xs)

wanted-length : (b : Bool) (x : Item) (xs : List Item) → b ≡ true → length (xs ++ cond b (x ∷ []) []) ≡ length xs + 1
wanted-length true x xs e = length_push xs x
wanted-length false x xs e = absurd (both_ways false refl e)

-- what is left of a list from place i on
module _ {X : Type 0} (xs rest : List X) (x : X) (i : ℕ) (left : x ∷ rest ≡ drop i xs) where
  left_more : rest ≡ drop (i + 1) xs
  left_more = ap (drop 1) left ∙ drop-drop 1 i xs

  left_in : i < length xs
  left_in = omega (arith, ap length left, length-drop i xs)

  left_at : (d : X) → x ≡ get_or xs i d
  left_at d = let e : i + 0 ≡ i = omega arith in ap (λ l. get_or l 0 d) left ∙ get_or-drop i xs 0 d ∙ ap (λ (j : ℕ). get_or xs j d) e

module _ (nodes : List Node) (used : List Bool) where
  items_grow : (k i : ℕ) → i ≤ k → length (items_below nodes used i) ≤ length (items_below nodes used k)
  items_grow zero i l = let e : i ≡ 0 = omega arith in omega (arith, ap (λ (j : ℕ). length (items_below nodes used j)) e)
  items_grow (suc k) i l =
      elim (cases_lt i (suc k)) [
        | inl low ↦ omega (arith, items_grow k i (omega arith), length-append (items_below nodes used k) (items_at nodes used k))
        | inr past ↦ let e : i ≡ suc k = omega arith in omega (arith, ap (λ (j : ℕ). length (items_below nodes used j)) e)
      ]

-- the pass has come to place i: what is left of the nodes, of their marks and of the table of what is looked back at, and the items so far
pub record Going (nodes : List Node) (used back : List Bool) (ns : List Node) (ms bs : List Bool) (i : ℕ) (xs : List Item) : Type 0 where
  pub nodes_left : ns ≡ drop i nodes
  pub marks_left : ms ≡ drop i used
  pub backs_left : bs ≡ drop i back
  pub room : length back ≡ 128
  pub looked : (k : ℕ) → k < 128 → get_or back k false ≡ back_below nodes used (length nodes) k
  pub early : i ≤ length nodes
  pub kept : xs ≡ items_below nodes used i

module _ {nodes ns ns' : List Node} {used back ms ms' bs bs' : List Bool} {i j : ℕ} {n : Node} {m b : Bool} {xs : List Item} (going : Going nodes used back ns ms bs i xs) (turn : ((ns ≡ n ∷ ns') × (ms ≡ m ∷ ms')) × (bs ≡ b ∷ bs')) (next_is : j ≡ i + 1) where
  here : n ∷ ns' ≡ drop i nodes
  here = sym turn.0.0 ∙ going.nodes_left

  mark : m ∷ ms' ≡ drop i used
  mark = sym turn.0.1 ∙ going.marks_left

  looked_at : b ∷ bs' ≡ drop i back
  looked_at = sym turn.1 ∙ going.backs_left

  moved : (ys : List Item) → ys ≡ items_below nodes used (i + 1) → Going nodes used back ns' ms' bs' j ys
  moved ys e = record {
    nodes_left = left_more nodes ns' n i here ∙ ap (λ (k : ℕ). drop k nodes) (sym next_is);
    marks_left = left_more used ms' m i mark ∙ ap (λ (k : ℕ). drop k used) (sym next_is);
    backs_left = left_more back bs' b i looked_at ∙ ap (λ (k : ℕ). drop k back) (sym next_is);
    room = going.room;
    looked = going.looked;
    early = omega (arith, left_in nodes ns' n i here);
    kept = e ∙ ap (items_below nodes used) (sym next_is);
  }

  -- a node that is not used keeps nothing
  pub skipped : m ≡ false → Going nodes used back ns' ms' bs' j xs
  skipped unmarked =
      let unused : get_or used i false ≡ false = sym (left_at used ms' m i mark false) ∙ unmarked in
      let e : suc i ≡ i + 1 = omega arith in
      let none : items_at nodes used i ≡ [] = search rules in
      moved xs (going.kept ∙ sym (append-nil (items_below nodes used i)) ∙ ap (λ l. items_below nodes used i ++ l) (sym none) ∙ ap (items_below nodes used) e)

  -- of one that is, the pass tests for both its items
  module _ {k : ℕ} {h f : Bool} (k_is : k ≡ i) (is_used : m ≡ true) (few : length nodes ≤ 128) (h_is : h ≡ (lasting n || b)) (f_is : f ≡ is_always n) where
    marked : true ≡ get_or used i false
    marked = sym is_used ∙ left_at used ms' m i mark false

    held : h ≡ (get_or used i false && (lasting (get_or nodes i True) || back_below nodes used (length nodes) i))
    held =
        h_is
        ∙ ap (λ v. lasting n || v) (left_at back bs' b i looked_at false)
        ∙ ap (λ v. lasting n || v) (going.looked i (omega (arith, left_in nodes ns' n i here)))
        ∙ ap (λ d. lasting d || back_below nodes used (length nodes) i) (left_at nodes ns' n i here True)
        ∙ ap (λ v. v && (lasting (get_or nodes i True) || back_below nodes used (length nodes) i)) marked

    failed : f ≡ (get_or used i false && is_always (get_or nodes i True))
    failed = f_is ∙ ap is_always (left_at nodes ns' n i here True) ∙ ap (λ v. v && is_always (get_or nodes i True)) marked

    both : (xs ++ cond h (Held k ∷ []) []) ++ cond f (Failed k ∷ []) [] ≡ items_below nodes used (i + 1)
    both =
        let e : suc i ≡ i + 1 = omega arith in
        let at : cond h (Held k ∷ []) [] ++ cond f (Failed k ∷ []) [] ≡ items_at nodes used i =
        λ j. cond (held j) (Held (k_is j) ∷ []) [] ++ cond (failed j) (Failed (k_is j) ∷ []) [] in
        append_assoc xs (cond h (Held k ∷ []) []) (cond f (Failed k ∷ []) [])
        ∙ (λ j. going.kept j ++ at j)
        ∙ ap (items_below nodes used) e

    pub listed_both : (ys : List Item) → ys ≡ (xs ++ cond h (Held k ∷ []) []) ++ cond f (Failed k ∷ []) [] → Going nodes used back ns' ms' bs' j ys
    listed_both ys e = moved ys (e ∙ both)

    all_more : length (xs ++ cond h (Held k ∷ []) []) + length (cond f (Failed k ∷ []) []) ≤ length (kept_items nodes used)
    all_more =
        omega (arith, ap length both, length-append (xs ++ cond h (Held k ∷ []) []) (cond f (Failed k ∷ []) []), items_grow nodes used (length nodes) (i + 1) (omega (arith, left_in nodes ns' n i here)))

    -- or there is no room for one of them
    pub over_held : {most : ℕ} (r : Option (Bounded Item most)) → h ≡ true → (length xs < most → ⊥) → r ≡ None → ListsItems nodes used r
    over_held {most} r is_kept full e =
        subst (ListsItems nodes used) (sym e) (inr (few, omega (arith, all_more, wanted-length h (Held k) xs is_kept, full)))

    pub over_failed : {most : ℕ} (r : Option (Bounded Item most)) (ys : List Item) → ys ≡ xs ++ cond h (Held k ∷ []) [] → f ≡ true → (length ys < most → ⊥) → r ≡ None → ListsItems nodes used r
    over_failed {most} r ys half is_kept full e =
        subst (ListsItems nodes used) (sym e) (inr (few, omega (arith, all_more, wanted-length f (Failed k) [] is_kept, ap length half, full)))

-- the pass ends with the nodes or with the marks, since the table is as long as there may be nodes
pub all_listed : {nodes ns : List Node} {used back ms bs : List Bool} {i : ℕ} {xs : List Item} → Going nodes used back ns ms bs i xs → length nodes ≤ 128 → ((length ns ≡ 0) ⊎ (length ms ≡ 0)) ⊎ (length bs ≡ 0) → xs ≡ kept_items nodes used
all_listed {nodes} {ns} {used} {back} {ms} {bs} {i} going few end =
    going.kept
    ∙ elim end [
      | inl (inl none) ↦
          let e : i ≡ length nodes = omega (arith, length-drop i nodes, ap length going.nodes_left, going.early) in
          ap (items_below nodes used) e
      | inl (inr none) ↦ items_past nodes used i (omega (arith, length-drop i used, ap length going.marks_left)) (length nodes) going.early
      | inr none ↦
          let e : i ≡ length nodes = omega (arith, length-drop i back, ap length going.backs_left, going.room, going.early) in
          ap (items_below nodes used) e
    ]
