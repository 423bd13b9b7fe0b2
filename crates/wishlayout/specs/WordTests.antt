-- What a word has to be that comes after a draft, each test by itself; and what the whole has to be at its end word. A test that cannot be
-- asked of a word, since it fails an earlier one, says nothing there. In which order they are asked is told by `word_tests`.
use Rattle.std.specs.Prelude.{ℕ, ◌-◌, Bool, true, false, not, ◌&&◌, ◌||◌, List, length, ◌==◌, nat_le, nat_lt, if◌then◌else◌}
use Rattle.formula.specs.declared.Node.{Node}
use Rattle.refusal.specs.declared.Refusal.{Refusal}
use Rattle.refusal.specs.declared.Refusal.TheVariants.{WrongKind, UnusedBit, OutOfRange, TooManyItems}
use Rattle.words.specs.Words.{field, kind}
use Rattle.words.specs.Tests.{within, none}
use Rattle.wishlayout.specs.OneWord.{is_unary, is_binary}
use Rattle.wishlayout.specs.Wishes.{items_for}
use Rattle.wishlayout.specs.Layout.{Draft, noding, wishing}

-- an end word may come: after any wish
abbrev pub may_end : Draft → Bool
may_end (noding ns) = false
may_end (wishing ns ws) = true

-- a node word may come: before the wishes, where there are fewer than 128 so far
abbrev pub may_node : Draft → Bool
may_node (noding ns) = nat_lt (length ns) 128
may_node (wishing ns ws) = false

-- a wish may come: after a node, where there are fewer than 16 so far
abbrev pub may_wish : Draft → Bool
may_wish (noding ns) = not (none ns)
may_wish (wishing ns ws) = nat_lt (length ws) 16

-- WrongKind: the word is of a kind that may come
abbrev pub kind_may_come : Draft → ℕ → Bool
kind_may_come d w =
    may_end d && kind w == 15
    || (may_node d && within 1 9 (kind w)
    || may_wish d && kind w == 10)

-- how many of its lowest bits have a field, by a word's kind: a label, one operand, two, none, a node and an amount; an end word uses all
abbrev pub width_of : ℕ → ℕ
width_of k =
    if k == 1 then 5
    else if is_unary k then 8
    else if is_binary k then 16
    else if k == 9 then 0
    else if k == 10 then 17
    else 28

-- UnusedBit: the bits that no field of the word's kind has are 0
abbrev pub unused_clear : ℕ → Bool
unused_clear w = field w (width_of (kind w)) (28 - width_of (kind w)) == 0

abbrev pub nodes_of : Draft → List Node
nodes_of (noding ns) = ns
nodes_of (wishing ns ws) = ns

-- OutOfRange: an operand, and the node of a wish, is the number of an earlier node word
abbrev pub in_range : ℕ → ℕ → Bool
in_range count w =
    if is_unary (kind w) || kind w == 10 then nat_lt (field w 0 8) count
    else if is_binary (kind w) then nat_lt (field w 0 8) count && nat_lt (field w 8 8) count
    else true

-- the test of one word, by the refusal
abbrev pub passes : Draft → ℕ → Refusal → Bool
passes d w WrongKind = kind_may_come d w
passes d w UnusedBit = unused_clear w
passes d w OutOfRange = in_range (length (nodes_of d)) w
passes d w r = true

-- the test of the whole: the wishes need at most 16 memory items
abbrev pub closes : Draft → Refusal → Bool
closes (wishing ns ws) TooManyItems = nat_le (length (items_for ns ws)) 16
closes d r = true
