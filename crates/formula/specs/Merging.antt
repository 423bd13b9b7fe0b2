-- Node words with the same kind and fields, operands merged first, are one node; the nodes are numbered by first appearance.
-- Merging reads the words from left to right: it keeps the nodes so far, and the number of the node of each word so far.
use Rattle.std.specs.Prelude.{◌≡◌, ℕ, ◌<◌, ◌≤◌, Bool, IsTrue, ◌&&◌, List, [], ◌∷◌, ◌++◌, length, Some, None, Option, ◌==◌, slice_index, slice_index_or}
use Rattle.bounded.specs.Listed.{listed}
use Rattle.register.specs.Keys.{enter, place_of, Kept}
use Rattle.formula.specs.declared.Node.{Node}
use Rattle.formula.specs.declared.Node.TheVariants.{Label, True, Not, And, Or, Previous, Since, Always, Once}
use Rattle.formula.specs.declared.merging.Merged.{Merged}
use Rattle.formula.specs.Formulas.{truth, formulas, earlier}
use Rattle.formula.specs.Resting.{operands}

-- what kind a node is, and its fields: a label's number, or the operands; 0 where there is none
abbrev pub node_kind : Node → ℕ
node_kind (Label p) = 0
node_kind True = 1
node_kind (Not a) = 2
node_kind (And a b) = 3
node_kind (Or a b) = 4
node_kind (Previous a) = 5
node_kind (Since a b) = 6
node_kind (Always a) = 7
node_kind (Once a) = 8

abbrev pub first_field : Node → ℕ
first_field (Label p) = p
first_field n = slice_index (operands n) 0

abbrev pub second_field : Node → ℕ
second_field n = slice_index (operands n) 1

-- the same kind and fields
abbrev pub same_node : Node → Node → Bool
same_node n m =
    node_kind n == node_kind m
    && (first_field n == first_field m && second_field n == second_field m)

-- the node with its operands through a list of numbers
abbrev pub renumbered : List ℕ → Node → Node
renumbered ks (Label p) = Label p
renumbered ks True = True
renumbered ks (Not a) = Not (slice_index ks a)
renumbered ks (And a b) = And (slice_index ks a) (slice_index ks b)
renumbered ks (Or a b) = Or (slice_index ks a) (slice_index ks b)
renumbered ks (Previous a) = Previous (slice_index ks a)
renumbered ks (Since a b) = Since (slice_index ks a) (slice_index ks b)
renumbered ks (Always a) = Always (slice_index ks a)
renumbered ks (Once a) = Once (slice_index ks a)

-- what merging has made of the words so far
pub record SoFar : Type 0 where
  pub nodes : List Node
  pub numbers : List ℕ

-- one word more
abbrev pub merge_one : SoFar → Node → SoFar
merge_one m w = record {
  nodes = enter same_node (renumbered m.numbers w) m.nodes;
  numbers = m.numbers ++ (place_of same_node (renumbered m.numbers w) m.nodes ∷ []);
}

abbrev pub merge_from : SoFar → List Node → SoFar
merge_from m [] = m
merge_from m (w ∷ ws) = merge_from (merge_one m w) ws

abbrev pub merge_all : List Node → SoFar
merge_all ws = merge_from (record { nodes = []; numbers = [] }) ws

-- the different nodes
abbrev pub nodes_of : List Node → List Node
nodes_of ws = (merge_all ws).nodes

-- the number of each word's node
abbrev pub numbers_of : List Node → List ℕ
numbers_of ws = (merge_all ws).numbers

-- what merging keeps of words whose operands number earlier words: the formulas, each once, in the order in which they first come
pub record KeepsFormulas (ws : List Node) : Type 0 where
  pub formulas_kept : Kept (formulas ws) (formulas (nodes_of ws))
  pub same_formula : (i : ℕ) → i < length ws
      → slice_index_or (formulas (nodes_of ws)) (slice_index (numbers_of ws) i) truth
      ≡ slice_index_or (formulas ws) i truth
  pub still_earlier : IsTrue (earlier (nodes_of ws))
  pub all_numbered : length (numbers_of ws) ≡ length ws
  pub in_range : (i : ℕ) → i < length ws → slice_index (numbers_of ws) i < length (nodes_of ws)

-- the answer to merging: both lists, or there are too many words
abbrev pub Merges : List Node → Option Merged → Type 0
Merges ws (Some m) =
    (length ws ≤ 128) × (listed m.nodes ≡ nodes_of ws) × (listed m.numbers ≡ numbers_of ws)
Merges ws None = 128 < length ws
