-- Each word of a wish book, read and written: what is read from a word is what it was written from, and a word that reads well
-- is the one that is written for what was read.
use Rattle.std.proofs.Common.{◌≡◌, ℕ, ◌^◌, ◌<◌, ◌≤◌, true, Ok, rules}
use Rattle.formula.specs.declared.Node.{Node}
use Rattle.formula.specs.declared.Node.TheVariants.{Label, True, Not, And, Or, Previous, Since, Always, Once}
use Rattle.formula.specs.Formulas.{operands_below}
use Rattle.words.specs.Words.{kind}
use Rattle.words.proofs.Fields.{field_and_above, field_below}
use Rattle.wishlayout.specs.declared.Wish.{Wish}
use Rattle.wishlayout.specs.Wishes.{good_label, good_wish}
use Rattle.wishlayout.specs.OneWord.{node_word, wish_word, node_of, wish_of}

-- reading

-- a node word that reads well is the one that is written for the node
pub node_reads : (count w : ℕ) (n : Node) → node_of count w ≡ Ok n → (w ≡ node_word n) × ((operands_below count n ≡ true) × (good_label n ≡ true))
node_reads count w (Label p) e = search (rules, field_and_above w 0 5, field_and_above w 5 23, field_below w 0 5)
node_reads count w (Not a) e = search (rules, field_and_above w 0 8, field_and_above w 8 20)
node_reads count w (And a b) e = search (rules, field_and_above w 0 8, field_and_above w 8 8, field_and_above w 16 12)
node_reads count w (Or a b) e = search (rules, field_and_above w 0 8, field_and_above w 8 8, field_and_above w 16 12)
node_reads count w (Previous a) e = search (rules, field_and_above w 0 8, field_and_above w 8 20)
node_reads count w (Since a b) e = search (rules, field_and_above w 0 8, field_and_above w 8 8, field_and_above w 16 12)
node_reads count w (Always a) e = search (rules, field_and_above w 0 8, field_and_above w 8 20)
node_reads count w (Once a) e = search (rules, field_and_above w 0 8, field_and_above w 8 20)
node_reads count w True e = search (rules, field_and_above w 0 28)

pub wish_in_reads : (count w : ℕ) (x : Wish) → wish_of count w ≡ Ok x → (w ≡ wish_word x) × (good_wish count x ≡ true)
wish_in_reads count w x e = search (rules, field_and_above w 0 8, field_and_above w 8 9, field_and_above w 17 11, field_below w 8 9)

-- writing

-- the kind of a node's word is below 10
pub node_kind : (count : ℕ) (n : Node) → count ≤ 128 → operands_below count n ≡ true → good_label n ≡ true → (kind (node_word n) < 10) × (node_word n < 2 ^ 32)
node_kind count (Label p) few o l = search rules
node_kind count (Not a) few o l = search rules
node_kind count (And a b) few o l = search rules
node_kind count (Or a b) few o l = search rules
node_kind count (Previous a) few o l = search rules
node_kind count (Since a b) few o l = search rules
node_kind count (Always a) few o l = search rules
node_kind count (Once a) few o l = search rules
node_kind count True few o l = search rules

-- the word that is written for a node reads as that node
pub node_written : (count : ℕ) (n : Node) → count ≤ 128 → operands_below count n ≡ true → good_label n ≡ true → node_of count (node_word n) ≡ Ok n
node_written count (Label p) few o l = search rules
node_written count (Not a) few o l = search rules
node_written count (And a b) few o l = search rules
node_written count (Or a b) few o l = search rules
node_written count (Previous a) few o l = search rules
node_written count (Since a b) few o l = search rules
node_written count (Always a) few o l = search rules
node_written count (Once a) few o l = search rules
node_written count True few o l = search rules

pub wish_written : (count : ℕ) (x : Wish) → count ≤ 128 → good_wish count x ≡ true → (wish_of count (wish_word x) ≡ Ok x) × ((kind (wish_word x) ≡ 10) × (wish_word x < 2 ^ 32))
wish_written count x few good = search rules
