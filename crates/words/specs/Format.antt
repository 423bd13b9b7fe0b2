-- A book format: what has been read so far, what one more word does to it, and what the whole comes to at the end word.
-- Every book is read by it: the first word that is refused decides, and its place is counted from 0.
use Rattle.std.specs.Prelude.{◌≡◌, ⊤, ℕ, ◌+◌, ◌-◌, ◌*◌, ◌%◌, ◌^◌, Bool, if◌then◌else◌, ◌&&◌, List, [], ◌∷◌, ◌++◌, length, take, Ok, Err, Result, ◌==◌}
use Rattle.refusal.specs.declared.Refusal.{Refusal}
use Rattle.refusal.specs.declared.Refusal.TheVariants.{CutOff, WrongKind, UnusedBit, WrongEnd}
use Rattle.words.specs.Tests.{none}
use Rattle.words.specs.Words.{kind, field, word_of, end_word, bytes_of, Bytes}

-- what a word does: it is refused, or read, or it is the end word
pub data Step (S : Type 0) : Type 0 where
  wrong : Refusal → Step S
  more : S → Step S
  ends : Step S

-- go on where the test holds, else refuse
abbrev pub check : {S : Type 0} → Bool → Refusal → Step S → Step S
check b r next = if b then next else wrong r

-- the same of what one word alone says
abbrev pub require : {X : Type 0} → Bool → Refusal → Result X Refusal → Result X Refusal
require b r next = if b then next else Err r

-- a word of kind k, whose fields are its lowest n bits
abbrev pub opened : ℕ → ℕ → ℕ → Result ⊤ Refusal
opened k n w = require (kind w == k) WrongKind (require (field w n (28 - n) == 0) UnusedBit (Ok tt))

-- go on with what the word says, where it is in order
abbrev pub onto : {X S : Type 0} → Result X Refusal → (X → Step S) → Step S
onto (Ok x) next = next x
onto (Err r) next = wrong r

-- the answer to a file: the book, or a refusal and the place of the word that it is about
pub data Verdict (B : Type 0) : Type 0 where
  got : B → Verdict B
  stop : Refusal → ℕ → Verdict B

-- a format: nothing read yet, one word more, and the whole at its end word
pub record Format (S B : Type 0) : Type 0 where
  pub start : S
  pub step : S → ℕ → Step S
  pub finish : S → Result B Refusal

-- the answer where the whole comes to this
abbrev pub closing : {B : Type 0} → Result B Refusal → ℕ → Verdict B
closing (Ok b) p = got b
closing (Err r) p = stop r p

-- at the end word: its number is that of the words before it, nothing follows, and then the book is judged as a whole
abbrev pub ending : {B : Type 0} → Result B Refusal → ℕ → ℕ → Bool → Verdict B
ending whole p w last = if w % 2 ^ 28 == p && last then closing whole p else stop WrongEnd p

-- reading on from what has been read, at the word of place p
unfoldable pub run : {S B : Type 0} → Format S B → S → ℕ → List ℕ → Verdict B
run f s p [] = stop CutOff p
run f s p (a ∷ []) = stop CutOff p
run f s p (a ∷ b ∷ []) = stop CutOff p
run f s p (a ∷ b ∷ c ∷ []) = stop CutOff p
run f s p (a ∷ b ∷ c ∷ d ∷ rest) =
    elim (f.step s (word_of a b c d)) [
      | wrong r ↦ stop r p
      | more t ↦ run f t (p + 1) rest
      | ends ↦ ending (f.finish s) p (word_of a b c d) (none rest)
    ]

-- a whole file
abbrev pub reading : {S B : Type 0} → Format S B → List ℕ → Verdict B
reading f bytes = run f f.start 0 bytes

-- the file of a book whose words before the end are ws
abbrev pub file : List ℕ → List ℕ
file ws = bytes_of (ws ++ (end_word (length ws) ∷ []))

-- a refusal's place is right: the words before it, alone, run out exactly there
abbrev pub PlacesRight : {S B : Type 0} → Format S B → Type 0
PlacesRight f =
    (bytes : List ℕ) (r : Refusal) (p : ℕ) → reading f bytes ≡ stop r p
    → reading f (take (4 * p) bytes) ≡ stop CutOff p

-- encoding a valid book and reading it gives that book back
abbrev pub ReadsBack : {S B : Type 0} → Format S B → (B → Type 0) → (B → List ℕ) → Type 0
ReadsBack {S} {B} f Valid words = (b : B) → Valid b → reading f (file (words b)) ≡ got b

-- whatever is accepted is the encoding of the book that was read, and that book is valid
abbrev pub OnlyEncodings : {S B : Type 0} → Format S B → (B → Type 0) → (B → List ℕ) → Type 0
OnlyEncodings {S} {B} f Valid words =
    (bytes : List ℕ) (b : B) → Bytes bytes → reading f bytes ≡ got b
    → Valid b × (bytes ≡ file (words b))

-- the three laws of a reader
pub record Faithful {S B : Type 0} (f : Format S B) (Valid : B → Type 0)
    (words : B → List ℕ) : Type 0 where
  pub places : PlacesRight f
  pub back : ReadsBack f Valid words
  pub only : OnlyEncodings f Valid words
