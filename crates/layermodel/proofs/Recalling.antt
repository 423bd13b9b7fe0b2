-- What a memory recalls of an item that has a place: the bit at that place; and how that is entered in tables by node number.
use Rattle.std.proofs.Common.{◌≡◌, ℕ, ◌+◌, ◌/◌, ◌%◌, ◌^◌, ◌<◌, ◌≤◌, Bool, true, false, cond, eqb, ltb, lt_of_lt_of_le, List, [], ◌∷◌, ◌++◌, map, length, get_or, take, drop, replicate, Some, None, Option, sym, refl, ap, ◌∙◌, subst, inl, inr, append_assoc, arith}
use Rattle.std.specs.List.{Contains, position_or_len, position_from}
use Rattle.std.specs.Option.{option_map_or}
use Rattle.std.proofs.lemmas.Iterator.Adapters.{position_from-zero}
use Rattle.std.proofs.lemmas.List.{append-nil, at_drop_all, drop_at, length_push, get_or_past, get_or-replicate, length-replicate}
use Rattle.std.proofs.lemmas.Nat.Bits.{bit_at_above}
use Rattle.std.proofs.lemmas.Bool.{cases_Bool, both_ways, cases_lt, eqb-true, eq-eqb, lt-ltb, cond-true, cond-false, le-ltb}
use Rattle.std.proofs.lemmas.List.Sums.{fails_before_first, passes_at_first}
use Rattle.formula.specs.declared.Item.{Item}
use Rattle.formula.specs.declared.Item.TheVariants.{Held, Failed}
use Rattle.truth.specs.Truth.{labelled}
use Rattle.formula.specs.declared.Node.{Node}
use Rattle.formula.specs.Resting.{resting}
use Rattle.formula.proofs.Chosen.{selected}
use Rattle.wishbook.specs.Book.{Book}
use Rattle.layermodel.specs.declared.recalled.Recalled.{Recalled}
use Rattle.layermodel.specs.Verdicts.{node_of, same_item, recalled, recalled_by, verdicts}
use Rattle.layermodel.specs.Records.{SoundBook}

same_is : (x y : Item) → same_item x y ≡ true → x ≡ y
same_is (Held i) (Held j) e = ap Held (eqb-true i j e)
same_is (Held i) (Failed j) e = absurd (both_ways false refl e)
same_is (Failed i) (Held j) e = absurd (both_ways false refl e)
same_is (Failed i) (Failed j) e = ap Failed (eqb-true i j e)

same_self : (x : Item) → same_item x x ≡ true
same_self (Held i) = eq-eqb i i refl
same_self (Failed i) = eq-eqb i i refl

module _ (items : List Item) (x : Item) (has : Contains items x) where
  pub place : ℕ
  place = position_or_len (same_item x) items

  pub place_below : place < length items
  unfolding place
  place_below =
      elim (cases_lt place (length items)) [
        | inl less ↦ less
        | inr past ↦ absurd (both_ways (same_item x x) (ap (same_item x) (sym has.2) ∙ fails_before_first (same_item x) items has.0 x (lt_of_lt_of_le has.1 past)) (same_self x))
      ]

  pub place_is : (d : Item) → get_or items place d ≡ x
  unfolding place
  place_is d = sym (same_is x (get_or items place d) (passes_at_first (same_item x) items d place_below))

  pub recalled_at : (memory : ℕ) → recalled items memory x ≡ labelled memory place
  unfolding place
  recalled_at memory = ap (λ o. option_map_or (labelled memory) o false) (cond-true (ltb place (length items)) (Some place) None (lt-ltb place (length items) place_below))

-- a memory of 64 bits has none from the 64th on
pub no_bit_past : (memory k : ℕ) → memory < 2 ^ 64 → 64 ≤ k → eqb (memory / 2 ^ k % 2) 1 ≡ false
no_bit_past memory k small high = ap (λ n. eqb n 1) (bit_at_above memory 64 k small high)

-- what the items from place n on recall, where n of them are left
abbrev pub recalled_from : List Item → ℕ → ℕ → Item → Bool
recalled_from items memory n x = option_map_or (labelled memory) (position_from (same_item x) n (drop n items)) false

pub from_first : (items : List Item) (memory : ℕ) (x : Item) → recalled_from items memory 0 x ≡ recalled items memory x
from_first items memory x = ap (λ o. option_map_or (labelled memory) o false) (sym (position_from-zero (same_item x) items))

first_or : (f : ℕ → Bool) (here : Bool) (n : ℕ) (o : Option ℕ) → option_map_or f (cond here (Some n) o) false ≡ cond here (f n) (option_map_or f o false)
first_or f true n o = refl
first_or f false n o = refl

-- the items that are left, when they are taken from the last down, are the first ones
abbrev pub Left : List Item → List Item → Type 0
Left items rest = items ≡ rest ++ drop (length rest) items

pub all_left : (items rest : List Item) → rest ≡ items → Left items rest
all_left items rest e = subst (Left items) (sym e) (sym (append-nil items) ∙ ap (λ d. items ++ d) (sym (at_drop_all (λ d. d) items (length items) (omega arith))))

-- at first nothing is entered
abbrev pub empty : Recalled
empty = record { held = replicate 128 false; failed = replicate 128 false; sizes = (length-replicate 128 false, length-replicate 128 false) }

pub none_yet : (items : List Item) (memory n : ℕ) → length items ≤ n → (x : Item) → node_of x < 128 → recalled_by empty x ≡ recalled_from items memory n x
none_yet items memory n l x low = told x low ∙ sym (at_drop_all (λ d. option_map_or (labelled memory) (position_from (same_item x) n d) false) items n l)
  where
    told : (x : Item) → node_of x < 128 → recalled_by empty x ≡ false
    told (Held i) low = get_or-replicate 128 i false false low
    told (Failed i) low = get_or-replicate 128 i false false low

module _ (items rest rest' : List Item) (y : Item) (left : Left items rest) (next : rest ≡ rest' ++ (y ∷ [])) where
  whole : items ≡ rest' ++ (y ∷ drop (length rest) items)
  whole = left ∙ ap (λ r. r ++ drop (length rest) items) next ∙ append_assoc rest' (y ∷ []) (drop (length rest) items)

  down : drop (length rest') items ≡ y ∷ drop (length rest) items
  down = ap (drop (length rest')) whole ∙ drop_at rest' (y ∷ drop (length rest) items) (length rest') refl

  pub still_left : Left items rest'
  still_left = whole ∙ ap (λ d. rest' ++ d) (sym down)

  -- the bit of the next item down comes first
  pub one_down : (memory : ℕ) (x : Item) → recalled_from items memory (length rest') x ≡ cond (same_item x y) (labelled memory (length rest')) (recalled_from items memory (length rest) x)
  one_down memory x =
      let n = length rest' in
      let long : n + 1 ≡ length rest = omega (arith, ap length next, length_push rest' y) in
      ap (λ d. option_map_or (labelled memory) (position_from (same_item x) n d) false) down
      ∙ first_or (labelled memory) (same_item x y) n (position_from (same_item x) (n + 1) (drop (length rest) items))
      ∙ ap (λ (k : ℕ). cond (same_item x y) (labelled memory n) (option_map_or (labelled memory) (position_from (same_item x) k (drop (length rest) items)) false)) long

-- of what is no item nothing is recalled
recalled_has : (items : List Item) (memory : ℕ) (x : Item) → recalled items memory x ≡ true → Contains items x
recalled_has items memory x e =
    let first = position_or_len (same_item x) items in
    elim (cases_lt first (length items)) [
      | inl less ↦ (first, less, sym (same_is x (get_or items first x) (passes_at_first (same_item x) items x less)))
      | inr past ↦ absurd (both_ways (recalled items memory x) (ap (λ o. option_map_or (labelled memory) o false) (cond-false (ltb first (length items)) (Some first) None (le-ltb first (length items) past))) e)
    ]

-- a sound book of at most 128 nodes
module _ (b : Book) (ok : SoundBook b) (few : length b.nodes ≤ 128) (memory : ℕ) where
  item_below : (x : Item) → Contains b.items x → node_of x < 128
  item_below (Held i) has = omega (arith, ((selected b.nodes (resting b.nodes (map (λ w. w.node) b.wishes))).held_only i (subst (λ xs. Contains xs (Held i)) ok.remembers has)).0)
  item_below (Failed i) has = omega (arith, ((selected b.nodes (resting b.nodes (map (λ w. w.node) b.wishes))).failed_only i (subst (λ xs. Contains xs (Failed i)) ok.remembers has)).0)

  past_all : (x : Item) → 128 ≤ node_of x → false ≡ recalled b.items memory x
  past_all x far =
      elim (cases_Bool (recalled b.items memory x)) [
        | inl t ↦ let near = item_below x (recalled_has b.items memory x t) in absurd (omega arith)
        | inr f ↦ sym f
      ]

  -- tables that tell what is recalled of the nodes below 128 tell all of it
  pub tables_recall : (r : Recalled) → ((x : Item) → node_of x < 128 → recalled_by r x ≡ recalled b.items memory x) → (x : Item) → recalled_by r x ≡ recalled b.items memory x
  tables_recall r low (Held i) = elim (cases_lt i 128) [ inl l ↦ low (Held i) l | inr far ↦ get_or_past r.held i false (omega (arith, r.sizes.0)) ∙ past_all (Held i) far ]
  tables_recall r low (Failed i) = elim (cases_lt i 128) [ inl l ↦ low (Failed i) l | inr far ↦ get_or_past r.failed i false (omega (arith, r.sizes.1)) ∙ past_all (Failed i) far ]

-- equal answers to what is recalled give equal verdicts
pub judged : (mask : ℕ) (told recalls : Item → Bool) (ns nodes : List Node) (known : List Bool) → take (length ns) known ≡ verdicts mask told ns → told ≡ recalls → ns ≡ nodes → take (length nodes) known ≡ verdicts mask recalls nodes
judged mask told recalls ns nodes known e same is = ap (λ (l : List Node). take (length l) known) (sym is) ∙ e ∙ (λ k. verdicts mask (same k) (is k))
