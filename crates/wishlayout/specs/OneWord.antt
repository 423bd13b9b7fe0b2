-- What one word of a wish book says, by its kind: how it is written, and what it says where it is in order by itself.
-- The tests come in this order: the kind, unused bits, ranges. Operands number earlier node words.
use Rattle.std.specs.Prelude.{ℕ, ◌+◌, ◌*◌, ◌^◌, Bool, ◌&&◌, ◌||◌, Ok, Err, Result, ◌==◌, nat_lt, if◌then◌else◌}
use Rattle.formula.specs.declared.Node.{Node}
use Rattle.formula.specs.declared.Node.TheVariants.{Label, True, Not, And, Or, Previous, Since, Always, Once}
use Rattle.refusal.specs.declared.Refusal.{Refusal}
use Rattle.refusal.specs.declared.Refusal.TheVariants.{WrongKind, UnusedBit, OutOfRange}
use Rattle.words.specs.Words.{field, kind}
use Rattle.words.specs.Format.{require}
use Rattle.wishlayout.specs.declared.Wish.{Wish}

abbrev pub node_word : Node → ℕ
node_word (Label p) = 1 * 2 ^ 28 + p
node_word (Not a) = 2 * 2 ^ 28 + a
node_word (And a b) = 3 * 2 ^ 28 + (a + b * 2 ^ 8)
node_word (Or a b) = 4 * 2 ^ 28 + (a + b * 2 ^ 8)
node_word (Previous a) = 5 * 2 ^ 28 + a
node_word (Since a b) = 6 * 2 ^ 28 + (a + b * 2 ^ 8)
node_word (Always a) = 7 * 2 ^ 28 + a
node_word (Once a) = 8 * 2 ^ 28 + a
node_word True = 9 * 2 ^ 28 + 0

abbrev pub wish_word : Wish → ℕ
wish_word w = 10 * 2 ^ 28 + (w.node + w.raised * 2 ^ 8)

-- the same refusal, or what follows from what was read
abbrev pub following : {X : Type 0} → Result X Refusal → (X → Result Node Refusal)
    → Result Node Refusal
following (Ok x) next = next x
following (Err r) next = Err r

-- a label in bits 0 to 4
abbrev pub label_in : ℕ → Result ℕ Refusal
label_in w = require (field w 5 23 == 0) UnusedBit (Ok (field w 0 5))

-- one operand, in bits 0 to 7
abbrev pub one_in : ℕ → ℕ → Result ℕ Refusal
one_in count w =
    require (field w 8 20 == 0) UnusedBit (require (nat_lt (field w 0 8) count) OutOfRange (Ok (field w 0 8)))

-- two operands, in bits 0 to 7 and 8 to 15
abbrev pub two_in : ℕ → ℕ → Result (ℕ × ℕ) Refusal
two_in count w =
    require (field w 16 12 == 0) UnusedBit
    (require (nat_lt (field w 0 8) count && nat_lt (field w 8 8) count) OutOfRange
    (Ok (field w 0 8, field w 8 8)))

-- the operand in the eight bits from the bit low on
abbrev pub operand_in : ℕ → ℕ → ℕ → Result ℕ Refusal
operand_in low count w = require (nat_lt (field w low 8) count) OutOfRange (Ok (field w low 8))

-- no field
abbrev pub true_in : ℕ → Result Node Refusal
true_in w = require (field w 0 28 == 0) UnusedBit (Ok True)

abbrev pub unary_of : ℕ → ℕ → Result Node Refusal
unary_of k a =
    if k == 2 then Ok (Not a)
    else if k == 5 then Ok (Previous a)
    else if k == 7 then Ok (Always a)
    else if k == 8 then Ok (Once a)
    else Err WrongKind

abbrev pub binary_of : ℕ → ℕ → ℕ → Result Node Refusal
binary_of k a b =
    if k == 3 then Ok (And a b)
    else if k == 4 then Ok (Or a b)
    else if k == 6 then Ok (Since a b)
    else Err WrongKind

abbrev pub is_unary : ℕ → Bool
is_unary k = k == 2 || (k == 5 || (k == 7 || k == 8))

abbrev pub is_binary : ℕ → Bool
is_binary k = k == 3 || (k == 4 || k == 6)

-- a node word after count others: label 1, not 2, and 3, or 4, previous 5, since 6, always 7, once 8, true 9
abbrev pub node_of : ℕ → ℕ → Result Node Refusal
node_of count w =
    if kind w == 1 then following (label_in w) (λ p. Ok (Label p))
    else if is_unary (kind w) then following (one_in count w) (unary_of (kind w))
    else if is_binary (kind w) then following (two_in count w) (λ p. binary_of (kind w) p.0 p.1)
    else if kind w == 9 then true_in w
    else Err WrongKind

-- kind 10: the node in bits 0 to 7, the amount plus 255 in 8 to 16
abbrev pub wish_of : ℕ → ℕ → Result Wish Refusal
wish_of count w =
    require (kind w == 10) WrongKind
    (require (field w 17 11 == 0) UnusedBit
    (require (nat_lt (field w 0 8) count) OutOfRange
    (Ok (record { node = field w 0 8; raised = field w 8 9 }))))
