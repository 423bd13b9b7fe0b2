-- How a rule book is written in words, and how it is read: head, each action in order with its outcomes right after it, and
-- the end word. The tests of one word stand first, and the order of the words after them.
use Rattle.std.specs.Prelude.{◌≡◌, ℕ, ◌+◌, ◌*◌, ◌^◌, ◌<◌, List, [], ◌∷◌, ◌++◌, map, flat_map, length, Ok, Err, Result, ◌==◌, bit_and, nat_lt, if◌then◌else◌, IsTrue}
use Rattle.std.specs.Coded.{Unit-prop}
use Rattle.std.proofs.Props.{props}
use Rattle.refusal.specs.declared.Refusal.{Refusal}
use Rattle.refusal.specs.declared.Refusal.TheVariants.{WrongKind, UnusedBit, OutOfRange, WrongTotal, NoWait, SwitchTwice}
use Rattle.words.specs.Words.{field, kind}
use Rattle.words.specs.Format.{Step, more, ends, check, require, onto, Format}
use Rattle.words.specs.Tests.{all}
use Rattle.rulelayout.specs.declared.Effect.{Effect}
use Rattle.rulelayout.specs.declared.RuleHead.{RuleHead}
use Rattle.rulelayout.specs.declared.Masks.{Masks}
use Rattle.rulelayout.specs.Rule.{Act, Rule, total, in_range, fits, good_effect, good_act, good_head, waits}

-- writing

abbrev pub word_of_head : ℕ → ℕ → ℕ → ℕ
word_of_head switches actions start = 6 * 2 ^ 28 + (switches + actions * 2 ^ 4 + start * 2 ^ 8)

-- an action or an outcome: two masks, and a count or a weight
abbrev pub masks_word : ℕ → ℕ → ℕ → ℕ → ℕ
masks_word k x y n = k * 2 ^ 28 + (x + y * 2 ^ 10 + n * 2 ^ 20)

abbrev pub action_word : ℕ → ℕ → ℕ → ℕ
action_word on off outcomes = masks_word 7 on off outcomes

abbrev pub effect_word : Effect → ℕ
effect_word e = masks_word 8 e.set e.clear e.weight

abbrev pub effect_words : List Effect → List ℕ
effect_words es = map effect_word es

-- the word of an action, and those of its outcomes right after it
abbrev pub words_of_act : Act → List ℕ
words_of_act a = action_word a.on a.off (length a.effects) ∷ effect_words a.effects

abbrev pub act_words : List Act → List ℕ
act_words acts = flat_map words_of_act acts

abbrev pub rule_words : Rule → List ℕ
rule_words b = word_of_head b.switches (length b.acts) b.start ∷ act_words b.acts

-- reading one word

abbrev pub head_of : ℕ → Result RuleHead Refusal
head_of w =
    require (kind w == 6) WrongKind
    (require (field w 18 10 == 0) UnusedBit
    (require (good_head (field w 0 4) (field w 4 4) (field w 8 10)) OutOfRange
    (Ok (record { switches = field w 0 4; actions = field w 4 4; start = field w 8 10 }))))

abbrev pub masks_of : ℕ → ℕ → ℕ → Result Masks Refusal
masks_of k switches w =
    require (kind w == k) WrongKind
    (require (field w 24 4 == 0) UnusedBit
    (require (in_range switches (field w 0 10) (field w 10 10) (field w 20 4)) OutOfRange
    (require (bit_and (field w 0 10) (field w 10 10) == 0) SwitchTwice
    (Ok (record { first = field w 0 10; second = field w 10 10; count = field w 20 4 })))))

-- the order of the words

-- what has been read so far
pub data Draft : Type 0 where
  blank : Draft  -- nothing
  listing : RuleHead → List Act → Draft  -- an action is due
  inside : RuleHead → List Act → Masks → List Effect
      → Draft  -- an outcome of the last action is due
  whole : RuleHead → List Act → Draft  -- the end is due

-- with these actions read
abbrev pub after_acts : RuleHead → List Act → Draft
after_acts h acts = if nat_lt (length acts) h.actions then listing h acts else whole h acts

abbrev pub act_of : Masks → List Effect → Act
act_of m es = record { on = m.first; off = m.second; effects = es }

abbrev pub effect_of : Masks → Effect
effect_of m = record { set = m.first; clear = m.second; weight = m.count }

-- with these outcomes of the last action read
abbrev pub filled : RuleHead → List Act → Masks → List Effect → Step Draft
filled h acts m es =
    if nat_lt (length es) m.count then more (inside h acts m es)
    else check (total es == 8) WrongTotal (more (after_acts h (acts ++ (act_of m es ∷ []))))

unfoldable pub read_word : Draft → ℕ → Step Draft
read_word blank w = onto (head_of w) (λ h. more (listing h []))
read_word (listing h acts) w = onto (masks_of 7 h.switches w) (λ m. more (inside h acts m []))
read_word (inside h acts m es) w =
    onto (masks_of 8 h.switches w) (λ e. filled h acts m (es ++ (effect_of e ∷ [])))
read_word (whole h acts) w = check (kind w == 15) WrongKind ends

abbrev pub rule_of : RuleHead → List Act → Rule
rule_of h acts = record { switches = h.switches; start = h.start; acts = acts }

-- at the end: action 0 has no needs
unfoldable pub whole_rule : Draft → Result Rule Refusal
whole_rule (whole h acts) = require (waits acts) NoWait (Ok (rule_of h acts))
whole_rule d = Err NoWait

abbrev pub rule_format : Format Draft Rule
rule_format = record { start = blank; step = read_word; finish = whole_rule }

-- what has been said so far

-- the words that a draft was read from
abbrev pub written : Draft → List ℕ
written blank = []
written (listing h acts) = word_of_head h.switches h.actions h.start ∷ act_words acts
written (inside h acts m es) =
    word_of_head h.switches h.actions h.start
    ∷ (act_words acts ++ (action_word m.first m.second m.count ∷ effect_words es))
written (whole h acts) = word_of_head h.switches h.actions h.start ∷ act_words acts

-- what is known of a draft: the head, the actions and the outcomes that it has are good ones, and there is room for what is due

abbrev pub Begun : RuleHead → List Act → Type 0
Begun h acts =
    IsTrue (good_head h.switches h.actions h.start) × IsTrue (all (good_act h.switches) acts)

abbrev pub Good : Draft → Type 0
Good blank = Unit {0}
Good (listing h acts) = Begun h acts × (length acts < h.actions)
Good (inside h acts m es) =
    Begun h acts × (length acts < h.actions)
    × IsTrue (fits h.switches m.first m.second m.count)
    × IsTrue (all (good_effect h.switches) es)
    × (length es < m.count)
Good (whole h acts) = Begun h acts × (length acts ≡ h.actions)

-- a draft is good in one way only
pub good-prop : (d : Draft) → IsProp (Good d)
good-prop blank = Unit-prop
good-prop (listing h acts) = Prim.hlevel props
good-prop (inside h acts m es) = Prim.hlevel props
good-prop (whole h acts) = Prim.hlevel props
