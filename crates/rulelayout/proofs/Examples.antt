-- Small files, read by the definitions alone.
use Rattle.std.proofs.Common.{◌≡◌, ℕ, true, List, [], ◌∷◌, refl}
use Rattle.refusal.specs.declared.Refusal.TheVariants.{SwitchTwice, NoWait, WrongTotal}
use Rattle.words.specs.Words.{bytes_of}
use Rattle.words.specs.Format.{got, stop, run, reading, file}
use Rattle.rulelayout.specs.Rule.{Rule, valid}
use Rattle.rulelayout.specs.Layout.{rule_format, read_word, whole_rule, rule_words}

still : Rule
still = record { switches = 2; start = 0; acts = record { on = 0; off = 0; effects = record { set = 0; clear = 0; weight = 8 } ∷ [] } ∷ [] }

still_words : List ℕ
still_words = 0x60000012 ∷ 0x70100000 ∷ 0x80800000 ∷ 0xF0000003 ∷ []

good : valid still ≡ true
unfolding still
good = refl

writes : bytes_of still_words ≡ file (rule_words still)
unfolding still still_words
writes = refl

reads : reading rule_format (bytes_of still_words) ≡ got still
unfolding run read_word whole_rule still still_words
reads = refl

twice : reading rule_format (bytes_of (0x60000012 ∷ 0x70100000 ∷ 0x80700802 ∷ 0xF0000003 ∷ [])) ≡ stop SwitchTwice 2
unfolding run read_word whole_rule
twice = refl

needs : reading rule_format (bytes_of (0x60000012 ∷ 0x70100001 ∷ 0x80800000 ∷ 0xF0000003 ∷ [])) ≡ stop NoWait 3
unfolding run read_word whole_rule
needs = refl

-- a total that passes 8 is refused at the last outcome
passed : reading rule_format (bytes_of (0x60000012 ∷ 0x70300000 ∷ 0x80800000 ∷ 0x80100000 ∷ 0x80100000 ∷ 0xF0000005 ∷ [])) ≡ stop WrongTotal 4
unfolding run read_word whole_rule
passed = refl
