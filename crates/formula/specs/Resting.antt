-- A reward rests on its node and on every operand below that.
-- `Rests` says so by a derivation from the roots, the nodes of the rewards; `resting` finds it, from the highest node down.
use Rattle.std.specs.Prelude.{◌≡◌, ℕ, zero, suc, ◌-◌, ◌<◌, ◌≤◌, Bool, true, false, if◌then◌else◌, IsTrue, List, [], ◌∷◌, ◌++◌, length, replicate, Some, None, Option, slice_index_or, slice_set, Contains}
use Rattle.formula.specs.declared.Node.{Node}
use Rattle.formula.specs.declared.Node.TheVariants.{True, Not, And, Or, Previous, Since, Always, Once}

-- node i, True past the end
abbrev pub node_at : List Node → ℕ → Node
node_at nodes i = slice_index_or nodes i True

-- node i is used: it is marked
abbrev pub used_at : List Bool → ℕ → Bool
used_at used i = slice_index_or used i false

-- the nodes that a node is made from, by their numbers
abbrev pub operands : Node → List ℕ
operands (Not a) = a ∷ []
operands (And a b) = a ∷ (b ∷ [])
operands (Or a b) = a ∷ (b ∷ [])
operands (Previous a) = a ∷ []
operands (Since a b) = a ∷ (b ∷ [])
operands (Always a) = a ∷ []
operands (Once a) = a ∷ []
operands n = []

-- the node of that number rests
pub data Rests (nodes : List Node) (roots : List ℕ) : ℕ → Type 0 where
  root : {i : ℕ} → Contains roots i → Rests nodes roots i
  below : {i a : ℕ} → Rests nodes roots i → Contains (operands (node_at nodes i)) a
      → Rests nodes roots a

-- the places of a list marked one after another; one past the end is passed over
abbrev pub all_marked : List Bool → List ℕ → List Bool
all_marked ms [] = ms
all_marked ms (a ∷ rest) = all_marked (slice_set ms a true) rest

-- the nodes below k in falling order: where one is marked, its operands are marked
abbrev pub spread : List Node → ℕ → List Bool → List Bool
spread nodes zero ms = ms
spread nodes (suc k) ms =
    spread nodes k (if used_at ms k then all_marked ms (operands (node_at nodes k)) else ms)

-- for each node, whether it rests
abbrev pub resting : List Node → List ℕ → List Bool
resting nodes roots =
    spread nodes (length nodes) (all_marked (replicate (length nodes) false) roots)

-- of nodes whose operands number earlier nodes, those are marked that rest, and no other
pub record Exact (nodes : List Node) (roots : List ℕ) : Type 0 where
  pub every : (i : ℕ) → i < length nodes → Rests nodes roots i
      → IsTrue (used_at (resting nodes roots) i)
  pub only : (i : ℕ) → i < length nodes → IsTrue (used_at (resting nodes roots) i)
      → Rests nodes roots i

-- the marks of at most 128 nodes, in a table of 128
abbrev pub Rested : List Node → List ℕ → Option (List Bool) → Type 0
Rested nodes roots (Some ms) =
    (length nodes ≤ 128) × (ms ≡ resting nodes roots ++ replicate (128 - length nodes) false)
Rested nodes roots None = 128 < length nodes
