-- What a word has to be that comes after a draft, each test by itself; and what the whole has to be at its end word. A test that cannot be
-- asked of a word, since it fails an earlier one, says nothing there. In which order they are asked is told by `word_tests`.
use Rattle.std.specs.Prelude.{ℕ, zero, ◌-◌, ◌^◌, Bool, true, false, not, ◌&&◌, ◌||◌, [], ◌∷◌, ◌++◌, length, Some, None, Ok, Err, Result, ◌==◌, nat_le, nat_lt}
use Rattle.refusal.specs.declared.Refusal.{Refusal}
use Rattle.refusal.specs.declared.Refusal.TheVariants.{WrongKind, UnusedBit, OutOfRange, WrongTotal, NotRising, NoWait}
use Rattle.words.specs.Words.{field, kind}
use Rattle.words.specs.Tests.{within}
use Rattle.sitelayout.specs.declared.kind.Kind.{Kind}
use Rattle.sitelayout.specs.declared.kind.Kind.TheVariants.{Head, Mask, Reward, Entry, Move, End}
use Rattle.sitelayout.specs.Kinds.{number_of, kind_of}
use Rattle.sitelayout.specs.OneWord.{head_in, mask_in, worth_in, entry_in, move_in}
use Rattle.sitelayout.specs.Site.{taken, total, waits}
use Rattle.sitelayout.specs.Layout.{Draft, fresh, marking, listing, moving, place_of}

-- the kind of word that is due
abbrev pub due_kind : Draft → Kind
due_kind fresh = Head
due_kind (marking h ms None) = Mask
due_kind (marking h ms (Some m)) = Reward
due_kind (listing h ms cs) = Entry
due_kind (moving h ms cs mv due) = Move

-- an end word may come: after the states, and after any whole entry
abbrev pub may_end : Draft → Bool
may_end (listing h ms cs) = true
may_end d = false

abbrev pub is_end : ℕ → Bool
is_end w = kind w == number_of End

-- WrongKind: the word is of the kind that is due, or an end word that may come
abbrev pub kind_may_come : Draft → ℕ → Bool
kind_may_come d w = may_end d && is_end w || kind w == number_of (due_kind d)

-- how many of its lowest bits have a field, by a word's kind
abbrev pub width_of : Kind → ℕ
width_of Head = 22
width_of Mask = 24
width_of Reward = 24
width_of Entry = 19
width_of Move = 16
width_of End = 28

abbrev pub unused_in : Result Kind Refusal → ℕ → ℕ
unused_in (Ok k) w = field w (width_of k) (28 - width_of k)
unused_in (Err r) w = 0

-- UnusedBit: the bits that no field of the word's kind has are 0
abbrev pub unused_clear : ℕ → Bool
unused_clear w = unused_in (kind_of w) w == 0

-- OutOfRange: the fields of the word that is due lie in their ranges; an end word has none
abbrev pub in_range : Draft → ℕ → Bool
in_range fresh w =
    within 1 4096 (head_in w).states
    && (nat_le (head_in w).labels 24 && within 1 8 (head_in w).actions)
in_range (marking h ms None) w = nat_lt (mask_in w) (2 ^ h.labels)
in_range (marking h ms (Some m)) w = nat_le (worth_in w).raised 4000
in_range (listing h ms cs) w =
    is_end w || nat_lt (entry_in w).state h.states
    && (nat_lt (entry_in w).action h.actions && within 1 8 (entry_in w).outcomes)
in_range (moving h ms cs mv due) w =
    nat_lt (move_in w).target h.states && within 1 8 (move_in w).weight

-- NotRising: an entry stands behind those before it, by state and action; the target of an outcome is none of those before it in its entry
abbrev pub rises : Draft → ℕ → Bool
rises (listing h ms cs) w = is_end w || nat_le (length cs) (place_of h (entry_in w))
rises (moving h ms cs mv due) w = not (taken (move_in w).target mv)
rises d w = true

-- WrongTotal: with the last outcome of an entry its weights total 8
abbrev pub totals : Draft → ℕ → Bool
totals (moving h ms cs mv zero) w = total (mv ++ (move_in w ∷ [])) == 8
totals d w = true

-- the test of one word, by the refusal
abbrev pub passes : Draft → ℕ → Refusal → Bool
passes d w WrongKind = kind_may_come d w
passes d w UnusedBit = unused_clear w
passes d w OutOfRange = in_range d w
passes d w NotRising = rises d w
passes d w WrongTotal = totals d w
passes d w r = true

-- the test of the whole: action 0 is offered in every state
abbrev pub closes : Draft → Refusal → Bool
closes (listing h ms cs) NoWait = waits h.actions h.states cs
closes d r = true
