-- The number of each refusal, as the books of rules give it. Want of memory is no refusal of the book, and is not among them.
use Rattle.std.specs.Prelude.{◌≡◌, ℕ, List, codes}
use Rattle.refusal.specs.declared.Refusal.{Refusal}
use Rattle.refusal.specs.declared.Unread.{Unread}
use Rattle.refusal.specs.declared.Unread.TheVariants.{Refused, Memory}
use Rattle.refusal.specs.declared.Refusal.TheVariants.{CutOff, WrongKind, UnusedBit, OutOfRange, WrongEnd, WrongTotal, NotRising, NoWait, SwitchTwice, TooManyItems, NoSuchLabel, BoundPassed, SpanPassed, TooManyStates, BookTableShort, HorizonTooLong, PlanTableShort, NotOffered, NoSuchOutcome, LastSlot}

abbrev pub number : Refusal → ℕ
number CutOff = 1
number WrongKind = 2
number UnusedBit = 3
number OutOfRange = 4
number WrongEnd = 5
number WrongTotal = 6
number NotRising = 7
number NoWait = 8
number SwitchTwice = 9
number TooManyItems = 10
number NoSuchLabel = 11
number BoundPassed = 12
number SpanPassed = 13
number TooManyStates = 14
number BookTableShort = 15
number HorizonTooLong = 16
number PlanTableShort = 17
number NotOffered = 18
number NoSuchOutcome = 19
number LastSlot = 20

-- one number, one refusal
abbrev pub Apart : Type 0
Apart = (a b : Refusal) → number a ≡ number b → a ≡ b

-- what a person is told
abbrev pub sentence : Refusal → List ℕ
sentence CutOff = codes "the bytes end before the end word"
sentence WrongKind = codes "a word of this kind may not come here"
sentence UnusedBit = codes "an unused bit is set"
sentence OutOfRange = codes "a field, a count, a state number or a mask bit is out of range"
sentence WrongEnd = codes "the end word's number is wrong, or bytes follow it"
sentence WrongTotal = codes "the weights of an entry do not total 8"
sentence NotRising = codes "a target comes twice in an entry, or the entries do not rise"
sentence NoWait = codes "action 0 is missing in a state, or has needs"
sentence SwitchTwice = codes "a switch stands in both masks"
sentence TooManyItems = codes "the wishes need more than 16 memory items"
sentence NoSuchLabel = codes "the model lacks a label, or has more than 24 with the wishes"
sentence BoundPassed = codes "the reward bound would pass 2000"
sentence SpanPassed = codes "the model below is too large for another layer"
sentence TooManyStates = codes "more states are reachable than the code table or 4096 holds"
sentence BookTableShort = codes "the book table is too short"
sentence HorizonTooLong = codes "the horizon is above 12"
sentence PlanTableShort = codes "a plan table is too short"
sentence NotOffered = codes "the action is not offered here"
sentence NoSuchOutcome = codes "the open choice has no outcome of this number"
sentence LastSlot = codes "slot 12 is the last, and nothing can be chosen in it"

abbrev pub why_unread : Unread → List ℕ
why_unread (Refused fault) = sentence fault.refusal
why_unread (Memory error) = codes "there is not enough memory"
