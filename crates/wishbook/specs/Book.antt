-- What a wish book comes to: the different nodes, the wishes by node number, and the memory items in order.
-- The wishes of a book mean what its node words say: merging changes no formula and no amount. Its items are those of the nodes on which rewards rest.
use Rattle.std.specs.Prelude.{◌≡◌, ℕ, ◌<◌, Bool, IsTrue, ◌&&◌, ◌⊎◌, ◌↔◌, List, [], ◌∷◌, map, length, slice_index, slice_index_or, Contains}
use Rattle.formula.specs.declared.Node.{Node}
use Rattle.formula.specs.declared.Node.TheVariants.{True, Previous}
use Rattle.formula.specs.declared.Item.{Item}
use Rattle.formula.specs.declared.Item.TheVariants.{Held, Failed}
use Rattle.formula.specs.Formulas.{Formula, truth, formulas, earlier}
use Rattle.formula.specs.Merging.{nodes_of, numbers_of}
use Rattle.formula.specs.Items.{lasting, is_always, rank, kept_items}
use Rattle.formula.specs.Resting.{Rests, resting}
use Rattle.words.specs.Tests.{all}
use Rattle.wishlayout.specs.declared.Wish.{Wish}
use Rattle.wishlayout.specs.Wishes.{Wishes, items_for, good_wish, valid}

pub record Book : Type 0 where
  pub nodes : List Node
  pub wishes : List Wish
  pub items : List Item

-- a wish whose node goes by its number
abbrev pub renamed : List ℕ → Wish → Wish
renamed numbers w = record { node = slice_index numbers w.node; raised = w.raised }

abbrev pub book_of : Wishes → Book
book_of f =
    record { nodes = nodes_of f.nodes; wishes = map (renamed (numbers_of f.nodes)) f.wishes; items = items_for f.nodes f.wishes }

-- operands number earlier nodes, and wishes name nodes
abbrev pub sound : List Node → List Wish → Bool
sound ns ws = earlier ns && all (good_wish (length ns)) ws

-- the items that nodes and wishes need
abbrev pub items_over : List Node → List Wish → List Item
items_over ns ws = kept_items ns (resting ns (map (λ w. w.node) ws))

-- what is wished: formulas, and the amount of each plus 255
abbrev pub meant : List Node → List Wish → List (Formula × ℕ)
meant ns [] = []
meant ns (w ∷ ws) = (slice_index_or (formulas ns) w.node truth, w.raised) ∷ meant ns ws

-- a book means what its node words say
abbrev pub SameWishes : Type 0
SameWishes =
    (f : Wishes) → IsTrue (valid f)
    → meant (book_of f).nodes (book_of f).wishes ≡ meant f.nodes f.wishes

-- some reward rests on the node i: on its own node, and on every operand below that
abbrev pub RestsOn : Book → ℕ → Type 0
RestsOn b i = Rests b.nodes (map (λ w. w.node) b.wishes) i

-- a since or a once on which a reward rests, or the operand of a previous on which one rests
abbrev pub NeedsHeld : Book → ℕ → Type 0
NeedsHeld b i =
    (RestsOn b i × IsTrue (lasting (slice_index_or b.nodes i True)))
    ⊎ ((k : ℕ) × RestsOn b k × (slice_index_or b.nodes k True ≡ Previous i))

-- an always on which a reward rests
abbrev pub NeedsFailed : Book → ℕ → Type 0
NeedsFailed b i = RestsOn b i × IsTrue (is_always (slice_index_or b.nodes i True))

-- the items of a book are those that are needed, each once, in the order of the nodes' numbers, held before failed
pub record KeepsItems (b : Book) : Type 0 where
  pub held : (i : ℕ) → Contains b.items (Held i) ↔ NeedsHeld b i
  pub failed : (i : ℕ) → Contains b.items (Failed i) ↔ NeedsFailed b i
  pub rising : (j k : ℕ) (d : Item) → j < k → k < length b.items
      → rank (slice_index_or b.items j d) < rank (slice_index_or b.items k d)
