-- What one word of a site book says, by its kind: how it is written, and what it says where it is in order by itself.
-- The tests come in this order: the kind, unused bits, ranges.
use Rattle.std.specs.Prelude.{ℕ, ◌+◌, ◌-◌, ◌*◌, ◌^◌, Bool, ◌&&◌, Ok, Result, ◌==◌, nat_le, nat_lt}
use Rattle.refusal.specs.declared.Refusal.{Refusal}
use Rattle.refusal.specs.declared.Refusal.TheVariants.{WrongKind, UnusedBit, OutOfRange}
use Rattle.words.specs.Words.{field, kind}
use Rattle.words.specs.Format.{require}
use Rattle.words.specs.Tests.{within}
use Rattle.sitelayout.specs.declared.Entry.{Entry}
use Rattle.sitelayout.specs.declared.Head.{Head}
use Rattle.sitelayout.specs.declared.Move.{Move}
use Rattle.sitelayout.specs.declared.Worth.{Worth}
use Rattle.sitelayout.specs.declared.kind.Kind.{Kind}
use Rattle.sitelayout.specs.declared.kind.Kind.TheVariants as kinds
use Rattle.sitelayout.specs.Kinds.{number_of}

abbrev pub word_of_head : ℕ → ℕ → ℕ → ℕ
word_of_head states labels actions =
    number_of kinds.Head * 2 ^ 28 + (states + labels * 2 ^ 13 + actions * 2 ^ 18)

abbrev pub word_of_mask : ℕ → ℕ
word_of_mask mask = number_of kinds.Mask * 2 ^ 28 + mask

abbrev pub word_of_reward : ℕ → ℕ → ℕ
word_of_reward raised origin = number_of kinds.Reward * 2 ^ 28 + (raised + origin * 2 ^ 12)

abbrev pub word_of_entry : ℕ → ℕ → ℕ → ℕ
word_of_entry state action outcomes =
    number_of kinds.Entry * 2 ^ 28 + (state + action * 2 ^ 12 + outcomes * 2 ^ 15)

abbrev pub word_of_move : Move → ℕ
word_of_move m = number_of kinds.Move * 2 ^ 28 + (m.target + m.weight * 2 ^ 12)

-- the fields of a word as they stand, by its kind

-- kind 1: the number of states in bits 0 to 12, of labels in 13 to 17, of actions in 18 to 21
abbrev pub head_in : ℕ → Head
head_in w = record { states = field w 0 13; labels = field w 13 5; actions = field w 18 4 }

-- kind 2: the label mask in bits 0 to 23
abbrev pub mask_in : ℕ → ℕ
mask_in w = field w 0 24

-- kind 3: the reward plus 2,000 in bits 0 to 11, the origin in 12 to 23
abbrev pub worth_in : ℕ → Worth
worth_in w = record { raised = field w 0 12; origin = field w 12 12 }

-- kind 4: the state in bits 0 to 11, the action in 12 to 14, the number of outcomes in 15 to 18
abbrev pub entry_in : ℕ → Entry
entry_in w = record { state = field w 0 12; action = field w 12 3; outcomes = field w 15 4 }

-- kind 5: the target in bits 0 to 11, the weight in 12 to 15
abbrev pub move_in : ℕ → Move
move_in w = record { target = field w 0 12; weight = field w 12 4 }

-- a word of kind k, whose fields are its lowest n bits: it says x where its ranges are right
abbrev pub said : {X : Type 0} → Kind → ℕ → ℕ → Bool → X → Result X Refusal
said k n w ranges x =
    require (kind w == number_of k) WrongKind
    (require (field w n (28 - n) == 0) UnusedBit
    (require ranges OutOfRange (Ok x)))

abbrev pub head_of : ℕ → Result Head Refusal
head_of w =
    let h = head_in w in
    said kinds.Head 22 w (within 1 4096 h.states && (nat_le h.labels 24 && within 1 8 h.actions)) h

abbrev pub mask_of : ℕ → ℕ → Result ℕ Refusal
mask_of labels w = said kinds.Mask 24 w (nat_lt (mask_in w) (2 ^ labels)) (mask_in w)

abbrev pub reward_of : ℕ → Result Worth Refusal
reward_of w = said kinds.Reward 24 w (nat_le (worth_in w).raised 4000) (worth_in w)

abbrev pub entry_of : ℕ → ℕ → ℕ → Result Entry Refusal
entry_of states actions w =
    let e = entry_in w in
    said kinds.Entry 19 w (nat_lt e.state states && (nat_lt e.action actions && within 1 8 e.outcomes)) e

abbrev pub move_of : ℕ → ℕ → Result Move Refusal
move_of states w =
    let m = move_in w in
    said kinds.Move 16 w (nat_lt m.target states && within 1 8 m.weight) m
