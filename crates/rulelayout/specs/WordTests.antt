-- What a word has to be that comes after a draft, each test by itself; and what the whole has to be at its end word. A test that cannot be
-- asked of a word, since it fails an earlier one, says nothing there. In which order they are asked is told by `word_tests`.
use Rattle.std.specs.Prelude.{ℕ, ◌+◌, Bool, true, false, ◌||◌, ◌-◌, [], ◌∷◌, ◌++◌, length, ◌==◌, bit_and, nat_lt, if◌then◌else◌}
use Rattle.refusal.specs.declared.Refusal.{Refusal}
use Rattle.refusal.specs.declared.Refusal.TheVariants.{WrongKind, UnusedBit, OutOfRange, WrongTotal, NoWait, SwitchTwice}
use Rattle.words.specs.Words.{field, kind}
use Rattle.rulelayout.specs.declared.Masks.{Masks}
use Rattle.rulelayout.specs.declared.RuleHead.{RuleHead}
use Rattle.rulelayout.specs.Rule.{total, in_range as masks_in_range, good_head, waits}
use Rattle.rulelayout.specs.Layout.{Draft, blank, listing, inside, whole, effect_of}

-- the fields of a word as they stand: two masks, and a count or a weight
abbrev pub masks_in : ℕ → Masks
masks_in w = record { first = field w 0 10; second = field w 10 10; count = field w 20 4 }

-- the kind of word that is due: a head, an action, an outcome, or the end
abbrev pub due_kind : Draft → ℕ
due_kind blank = 6
due_kind (listing h acts) = 7
due_kind (inside h acts m es) = 8
due_kind (whole h acts) = 15

-- an end word may come: after the last outcome of the last action
abbrev pub may_end : Draft → Bool
may_end (whole h acts) = true
may_end d = false

-- WrongKind: the word is of the kind that is due
abbrev pub kind_may_come : Draft → ℕ → Bool
kind_may_come d w = kind w == due_kind d

-- how many of its lowest bits have a field, by a word's kind: a head, an action or an outcome; an end word uses all
abbrev pub width_of : ℕ → ℕ
width_of k = if k == 6 then 18 else if k == 7 || k == 8 then 24 else 28

-- UnusedBit: the bits that no field of the word's kind has are 0
abbrev pub unused_clear : ℕ → Bool
unused_clear w = field w (width_of (kind w)) (28 - width_of (kind w)) == 0

abbrev pub within_book : RuleHead → Masks → Bool
within_book h m = masks_in_range h.switches m.first m.second m.count

-- OutOfRange: the fields of the word that is due lie in their ranges
abbrev pub in_range : Draft → ℕ → Bool
in_range blank w = good_head (field w 0 4) (field w 4 4) (field w 8 10)
in_range (listing h acts) w = within_book h (masks_in w)
in_range (inside h acts m es) w = within_book h (masks_in w)
in_range (whole h acts) w = true

abbrev pub apart : Masks → Bool
apart m = bit_and m.first m.second == 0

-- SwitchTwice: no switch stands in both masks of an action or of an outcome
abbrev pub once : Draft → ℕ → Bool
once (listing h acts) w = apart (masks_in w)
once (inside h acts m es) w = apart (masks_in w)
once d w = true

-- WrongTotal: more outcomes of the action are due after this one, or with it the weights total 8
abbrev pub totals : Draft → ℕ → Bool
totals (inside h acts m es) w =
    nat_lt (length es + 1) m.count || total (es ++ (effect_of (masks_in w) ∷ [])) == 8
totals d w = true

-- the test of one word, by the refusal
abbrev pub passes : Draft → ℕ → Refusal → Bool
passes d w WrongKind = kind_may_come d w
passes d w UnusedBit = unused_clear w
passes d w OutOfRange = in_range d w
passes d w SwitchTwice = once d w
passes d w WrongTotal = totals d w
passes d w r = true

-- the test of the whole: action 0 has no needs
abbrev pub closes : Draft → Refusal → Bool
closes (whole h acts) NoWait = waits acts
closes d r = true
