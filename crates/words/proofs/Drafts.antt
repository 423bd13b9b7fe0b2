-- What a draft's answer to a word says of the word, and so of reading on.
use Rattle.std.proofs.Common.{◌≡◌, ℕ, ◌+◌, ◌≤◌, List, length, drop, Ok, Err, Result, is_ok, false, refl, ap, ◌∙◌, rules}
use Rattle.refusal.specs.declared.Refusal.{Refusal}
use Rattle.words.specs.Words.{first_word}
use Rattle.words.specs.Format.{Step, wrong, more, ends, stop, Format, ending, run}
use Rattle.words.specs.Tests.{none}
use Rattle.words.specs.Drafts.{Stepped}
use Rattle.words.specs.declared.reader.Turn.{Turn}
use Rattle.words.specs.declared.reader.Turn.TheVariants.{More, End}
use Rattle.words.proofs.Reading.{after, run_word}

module _ {X S : Type 0} (Follows : X → S → Type 0) where
  says_more : (s : S) (st : Step S) (x : X) → Stepped Follows s st x (Ok More) → (t : S) × ((st ≡ more t) × Follows x t)
  says_more s (wrong r) x h = search rules
  says_more s (more t) x h = (t, (refl, h.1))
  says_more s ends x h = search rules

  says_end : (s : S) (st : Step S) (x : X) → Stepped Follows s st x (Ok End) → (st ≡ ends) × Follows x s
  says_end s (wrong r) x h = search rules
  says_end s (more t) x h = search rules
  says_end s ends x h = (refl, h.1)

  says_wrong : (s : S) (st : Step S) (x : X) (r : Refusal) → Stepped Follows s st x (Err r) → st ≡ wrong r
  says_wrong s (wrong q) x r h = search rules
  says_wrong s (more t) x r h = search rules
  says_wrong s ends x r h = search rules

  module _ {B : Type 0} (f : Format S B) (s : S) (p w : ℕ) (bytes rest : List ℕ) (four : 4 ≤ length bytes) (first : w ≡ first_word bytes) (next : rest ≡ drop 4 bytes) where
    runs : run f s p bytes ≡ after f s p w rest (f.step s w)
    runs = run_word f s p bytes four ∙ search (rules, first, next)

    pub reads_more : (x : X) → Stepped Follows s (f.step s w) x (Ok More) → (t : S) × (Follows x t × (run f s p bytes ≡ run f t (p + 1) rest))
    reads_more x h = let m = says_more s (f.step s w) x h in (m.0, (m.1.1, runs ∙ ap (after f s p w rest) m.1.0))

    pub reads_end : (x : X) → Stepped Follows s (f.step s w) x (Ok End) → Follows x s × (run f s p bytes ≡ ending (f.finish s) p w (none rest))
    reads_end x h = let m = says_end s (f.step s w) x h in (m.1, runs ∙ ap (after f s p w rest) m.0)

    reads_wrong : (x : X) (r : Refusal) → Stepped Follows s (f.step s w) x (Err r) → run f s p bytes ≡ stop r p
    reads_wrong x r h = runs ∙ ap (after f s p w rest) (says_wrong s (f.step s w) x r h)

    pub reads_refused : (x : X) (answer : Result Turn Refusal) → Stepped Follows s (f.step s w) x answer → is_ok answer ≡ false → (r : Refusal) × ((answer ≡ Err r) × (run f s p bytes ≡ stop r p))
    reads_refused x (Ok t) h e = search rules
    reads_refused x (Err r) h e = (r, (refl, reads_wrong x r h))
