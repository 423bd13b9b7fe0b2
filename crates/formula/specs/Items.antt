-- Of the nodes that are used, some are remembered from step to step by an item. The held item of a node is kept if it is a since
-- or a once, or the operand of a previous that is used; its failed item is kept if it is an always. Items are ordered by node
-- number, held before failed.
use Rattle.std.specs.Prelude.{◌≡◌, ℕ, zero, suc, ◌+◌, ◌*◌, ◌<◌, ◌≤◌, Bool, true, false, if◌then◌else◌, IsTrue, ◌&&◌, ◌||◌, ◌⊎◌, List, [], ◌∷◌, ◌++◌, map, length, Some, None, Option, ◌==◌, slice_index, slice_index_or, Contains}
use Rattle.bounded.specs.Listed.{listed}
use Rattle.bounded.specs.declared.Bounded.{Bounded}
use Rattle.formula.specs.declared.Node.{Node}
use Rattle.formula.specs.declared.Node.TheVariants.{True, Previous, Since, Always, Once}
use Rattle.formula.specs.declared.Item.{Item}
use Rattle.formula.specs.declared.Item.TheVariants.{Held, Failed}
use Rattle.formula.specs.Merging.{nodes_of, numbers_of}
use Rattle.formula.specs.Resting.{node_at, used_at, resting}

-- a since or a once
abbrev pub lasting : Node → Bool
lasting (Since a b) = true
lasting (Once a) = true
lasting n = false

abbrev pub is_always : Node → Bool
is_always (Always a) = true
is_always n = false

-- the node is the previous of i
abbrev pub looks_back : ℕ → Node → Bool
looks_back i (Previous a) = a == i
looks_back i n = false

-- some used node below k is the previous of i
abbrev pub back_below : List Node → List Bool → ℕ → ℕ → Bool
back_below nodes used zero i = false
back_below nodes used (suc k) i =
    back_below nodes used k i || (used_at used k && looks_back i (node_at nodes k))

-- the items of a node
abbrev pub items_at : List Node → List Bool → ℕ → List Item
items_at nodes used i =
    (if used_at used i && (lasting (node_at nodes i) || back_below nodes used (length nodes) i) then Held i ∷ [] else [])
    ++ (if used_at used i && is_always (node_at nodes i) then Failed i ∷ [] else [])

-- the items of the nodes below k
abbrev pub items_below : List Node → List Bool → ℕ → List Item
items_below nodes used zero = []
items_below nodes used (suc k) = items_below nodes used k ++ items_at nodes used k

abbrev pub kept_items : List Node → List Bool → List Item
kept_items nodes used = items_below nodes used (length nodes)

-- the items that a book keeps: of its node words, and the numbers of the words that its rewards name
abbrev pub items_of : List Node → List ℕ → List Item
items_of ws roots =
    kept_items (nodes_of ws) (resting (nodes_of ws) (map (λ r. slice_index (numbers_of ws) r) roots))

-- where an item stands in the order
abbrev pub rank : Item → ℕ
rank (Held i) = 2 * i
rank (Failed i) = 2 * i + 1

-- a since or a once, or the operand of a previous that is used
abbrev pub Remembered : List Node → List Bool → ℕ → Type 0
Remembered nodes used i =
    IsTrue (lasting (node_at nodes i))
    ⊎ ((k : ℕ) × (k < length nodes) × IsTrue (used_at used k) × (node_at nodes k ≡ Previous i))

-- which items a list holds, and in which order: no item comes twice
pub record Selected (nodes : List Node) (used : List Bool) (items : List Item) : Type 0 where
  pub held_kept : (i : ℕ) → i < length nodes → IsTrue (used_at used i) → Remembered nodes used i
      → Contains items (Held i)
  pub held_only : (i : ℕ) → Contains items (Held i)
      → (i < length nodes) × IsTrue (used_at used i) × Remembered nodes used i
  pub failed_kept : (i : ℕ) → i < length nodes → IsTrue (used_at used i)
      → IsTrue (is_always (node_at nodes i))
      → Contains items (Failed i)
  pub failed_only : (i : ℕ) → Contains items (Failed i)
      → (i < length nodes) × IsTrue (used_at used i) × IsTrue (is_always (node_at nodes i))
  pub rising : (j k : ℕ) (d : Item) → j < k → k < length items
      → rank (slice_index_or items j d) < rank (slice_index_or items k d)

-- the kept items of at most 128 nodes; or there are more nodes, or more items than the list can hold
abbrev pub ListsItems : {most : ℕ} → List Node → List Bool → Option (Bounded Item most) → Type 0
ListsItems nodes used (Some items) = (length nodes ≤ 128) × (listed items ≡ kept_items nodes used)
ListsItems {most} nodes used None =
    (128 < length nodes) ⊎ ((length nodes ≤ 128) × (most < length (kept_items nodes used)))
