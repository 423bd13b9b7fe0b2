-- How a layer judges a state: from the label mask below and the remembered bits, the truth of each node in
-- rising order; and what it remembers on leaving. A bit tells whether the node of its item held, or failed, one
-- position earlier; at the start all are 0.
use Rattle.std.specs.Prelude.{ℕ, ◌+◌, ◌*◌, Bool, true, false, if◌then◌else◌, not, ◌&&◌, ◌||◌, List, [], ◌∷◌, ◌++◌, length, ℤ, ◌+ℤ◌, ◌==◌, slice_index_or}
use Rattle.std.specs.List.{position}
use Rattle.std.specs.Option.{option_map_or}
use Rattle.formula.specs.declared.Node.{Node}
use Rattle.formula.specs.declared.Node.TheVariants.{Label, True, Not, And, Or, Previous, Since, Always, Once}
use Rattle.formula.specs.declared.Item.{Item}
use Rattle.formula.specs.declared.Item.TheVariants.{Held, Failed}
use Rattle.truth.specs.Truth.{labelled}
use Rattle.wishlayout.specs.declared.Wish.{Wish}
use Rattle.wishlayout.specs.Wishes.{amount}
use Rattle.layermodel.specs.declared.recalled.Recalled.{Recalled}

-- the node of an item
abbrev pub node_of : Item → ℕ
node_of (Held i) = i
node_of (Failed i) = i

abbrev pub same_item : Item → Item → Bool
same_item (Held i) (Held j) = i == j
same_item (Failed i) (Failed j) = i == j
same_item _ _ = false

-- what a memory recalls of an item: the bit at its place among the items; false where it has none
abbrev pub recalled : List Item → ℕ → Item → Bool
recalled items memory x = option_map_or (labelled memory) (position (same_item x) items) false

-- what the tables of node numbers tell of an item; false past their ends
abbrev pub recalled_by : Recalled → Item → Bool
recalled_by r (Held i) = slice_index_or r.held i false
recalled_by r (Failed i) = slice_index_or r.failed i false

-- the verdict on node i, from the items that r recalls and the verdicts on the nodes before it
abbrev pub verdict : ℕ → (Item → Bool) → ℕ → List Bool → Node → Bool
verdict mask r i known (Label p) = labelled mask p
verdict mask r i known True = true
verdict mask r i known (Not a) = not (slice_index_or known a false)
verdict mask r i known (And a b) = slice_index_or known a false && slice_index_or known b false
verdict mask r i known (Or a b) = slice_index_or known a false || slice_index_or known b false
verdict mask r i known (Previous a) = r (Held a)
verdict mask r i known (Since a b) =
    (slice_index_or known a false && r (Held i)) || slice_index_or known b false
verdict mask r i known (Always a) = not (r (Failed i)) && slice_index_or known a false
verdict mask r i known (Once a) = r (Held i) || slice_index_or known a false

-- the verdicts on further nodes, after those on the nodes before them
abbrev pub verdicts_from : ℕ → (Item → Bool) → List Bool → List Node → List Bool
verdicts_from mask r known [] = known
verdicts_from mask r known (n ∷ ns) =
    verdicts_from mask r (known ++ (verdict mask r (length known) known n ∷ [])) ns

abbrev pub verdicts : ℕ → (Item → Bool) → List Node → List Bool
verdicts mask r ns = verdicts_from mask r [] ns

abbrev pub bit : Bool → ℕ
bit true = 1
bit false = 0

-- a number from bits, one for each x: the bit of the first is the lowest
abbrev pub bits_of : {X : Type 0} → (X → Bool) → List X → ℕ
bits_of holds [] = 0
bits_of holds (x ∷ xs) = bit (holds x) + 2 * bits_of holds xs

-- what is remembered of an item, from the verdicts
abbrev pub item_held : List Bool → Item → Bool
item_held vs (Held i) = slice_index_or vs i false
item_held vs (Failed i) = not (slice_index_or vs i false)

-- what is remembered of the verdicts: item 0 is the lowest bit
abbrev pub memory_of : List Item → List Bool → ℕ
memory_of items vs = bits_of (item_held vs) items

-- whether the node of a wish holds
abbrev pub wish_held : List Bool → Wish → Bool
wish_held vs w = slice_index_or vs w.node false

-- one bit for each wish, in book order
abbrev pub bits_of_wishes : List Wish → List Bool → ℕ
bits_of_wishes ws vs = bits_of (wish_held vs) ws

-- the amounts of the wishes that hold, after what was earned before
abbrev pub earned : ℤ → List Wish → List Bool → ℤ
earned sum [] vs = sum
earned sum (w ∷ ws) vs = earned (if wish_held vs w then sum +ℤ amount w else sum) ws vs
