-- A formula about the past is a tree. A list of nodes writes formulas: the operands of a node number earlier nodes of the list,
-- counted from 0. `formulas` reads the list from left to right: the tree of each node is made from the trees before it.
use Rattle.std.specs.Prelude.{ℕ, suc, Bool, true, ◌&&◌, List, [], ◌∷◌, ◌++◌, nat_lt, slice_index_or}
use Rattle.formula.specs.declared.Node.{Node}
use Rattle.formula.specs.declared.Node.TheVariants.{Label, True, Not, And, Or, Previous, Since, Always, Once}

pub data Formula : Type 0 where
  atom : ℕ → Formula  -- the label holds now
  truth : Formula
  negation : Formula → Formula
  conjunction : Formula → Formula → Formula
  disjunction : Formula → Formula → Formula
  previously : Formula → Formula  -- held a step ago
  since : Formula → Formula → Formula  -- the second held once, and the first ever after
  always : Formula → Formula  -- held at every step so far
  sometime : Formula → Formula  -- held at some step so far

-- the tree of a node over the trees of the nodes before it
abbrev pub tree_of : List Formula → Node → Formula
tree_of ts (Label p) = atom p
tree_of ts True = truth
tree_of ts (Not a) = negation (slice_index_or ts a truth)
tree_of ts (And a b) = conjunction (slice_index_or ts a truth) (slice_index_or ts b truth)
tree_of ts (Or a b) = disjunction (slice_index_or ts a truth) (slice_index_or ts b truth)
tree_of ts (Previous a) = previously (slice_index_or ts a truth)
tree_of ts (Since a b) = since (slice_index_or ts a truth) (slice_index_or ts b truth)
tree_of ts (Always a) = always (slice_index_or ts a truth)
tree_of ts (Once a) = sometime (slice_index_or ts a truth)

-- the trees of further nodes, after those of the nodes before them
abbrev pub formulas_from : List Formula → List Node → List Formula
formulas_from ts [] = ts
formulas_from ts (n ∷ ns) = formulas_from (ts ++ (tree_of ts n ∷ [])) ns

abbrev pub formulas : List Node → List Formula
formulas ns = formulas_from [] ns

-- each operand is below i
abbrev pub operands_below : ℕ → Node → Bool
operands_below i (Not a) = nat_lt a i
operands_below i (And a b) = nat_lt a i && nat_lt b i
operands_below i (Or a b) = nat_lt a i && nat_lt b i
operands_below i (Previous a) = nat_lt a i
operands_below i (Since a b) = nat_lt a i && nat_lt b i
operands_below i (Always a) = nat_lt a i
operands_below i (Once a) = nat_lt a i
operands_below i n = true

abbrev pub earlier_from : ℕ → List Node → Bool
earlier_from i [] = true
earlier_from i (n ∷ ns) = operands_below i n && earlier_from (suc i) ns

-- the operands of each node number earlier nodes
abbrev pub earlier : List Node → Bool
earlier ns = earlier_from 0 ns
