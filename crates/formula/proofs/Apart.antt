-- Over trees of which no two are the same, two nodes with one tree are one node.
use Rattle.std.proofs.Common.{◌≡◌, ℕ, ◌<◌, true, ◌&&◌, ltb, List, [], ◌∷◌, length, rules}
use Rattle.std.specs.List.{All}
use Rattle.std.proofs.lemmas.List.Elements.{All-nil, All-cons}
use Rattle.std.proofs.lemmas.Bool.{and_parts, ltb-true}
use Rattle.register.specs.Keys.{Distinct}
use Rattle.formula.specs.declared.Node.{Node}
use Rattle.formula.specs.declared.Node.TheVariants.{Label, True, Not, And, Or, Previous, Since, Always, Once}
use Rattle.formula.specs.Formulas.{Formula, tree_of, operands_below}
use Rattle.formula.specs.Resting.{operands}

one_below : (k a : ℕ) → ltb a k ≡ true → All (λ n. n < k) (a ∷ [])
one_below k a h = All-cons (λ n. n < k) a [] (ltb-true a k h) (All-nil (λ n. n < k))

two_below : (k a b : ℕ) → (ltb a k && ltb b k) ≡ true → All (λ n. n < k) (a ∷ (b ∷ []))
two_below k a b h =
    let both = and_parts (ltb a k) (ltb b k) h in
    All-cons (λ n. n < k) a (b ∷ []) (ltb-true a k both.0) (one_below k b both.1)

-- the operands as a list
pub operands_are_below : (k : ℕ) (n : Node) → operands_below k n ≡ true → All (λ a. a < k) (operands n)
operands_are_below k (Label p) h = All-nil (λ n. n < k)
operands_are_below k True h = All-nil (λ n. n < k)
operands_are_below k (Not a) h = one_below k a h
operands_are_below k (And a b) h = two_below k a b h
operands_are_below k (Or a b) h = two_below k a b h
operands_are_below k (Previous a) h = one_below k a h
operands_are_below k (Since a b) h = two_below k a b h
operands_are_below k (Always a) h = one_below k a h
operands_are_below k (Once a) h = one_below k a h

pub tree_of_apart : (ts : List Formula) (n m : Node) → Distinct ts → operands_below (length ts) n ≡ true → operands_below (length ts) m ≡ true → tree_of ts n ≡ tree_of ts m → n ≡ m
tree_of_apart ts n m apart l r e = search rules
