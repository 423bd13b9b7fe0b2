-- When a refusal is right. Of a format there is told what is known of a draft (`Good`), the words that it was read from
-- (`written`), whether the end word may come after it (`may_end`), which tests a word after it passes (`passes`), and which the
-- whole does (`closes`).
use Rattle.std.specs.Prelude.{◌≡◌, ◌≢◌, ◌⊎◌, ℕ, ◌+◌, ◌*◌, ◌<◌, ◌≤◌, Bool, true, false, IsTrue, IsFalse, not, List, [], ◌∷◌, length, take, find, Some, None, Option, nat_lt}
use Rattle.refusal.specs.declared.Refusal.{Refusal}
use Rattle.refusal.specs.declared.Refusal.TheVariants.{CutOff, WrongKind, UnusedBit, OutOfRange, WrongEnd, WrongTotal, NotRising, NoWait, SwitchTwice, TooManyItems}
use Rattle.words.specs.Words.{kind, end_word, words_of, word_at}
use Rattle.words.specs.Format.{Format, stop, reading}

-- the tests of one word after those before it, in the order in which they are asked
abbrev pub word_tests : List Refusal
word_tests = WrongKind ∷ UnusedBit ∷ OutOfRange ∷ SwitchTwice ∷ NotRising ∷ WrongTotal ∷ []

-- the tests of the whole, at an end word that is right
abbrev pub book_tests : List Refusal
book_tests = NoWait ∷ TooManyItems ∷ []

-- the first of the tests, in their order, that is not passed
abbrev pub first_not_passed : List Refusal → (Refusal → Bool) → Option Refusal
first_not_passed tests passes = find (λ r. not (passes r)) tests

-- refusals of an end word that may come; on them bears whether bytes follow
abbrev pub at_end : Refusal → Bool
at_end WrongEnd = true
at_end NoWait = true
at_end TooManyItems = true
at_end r = false

-- refusals of a word for what it says: all but those of an end word that may come, and that no word is there
abbrev pub of_word : Refusal → Bool
of_word CutOff = false
of_word r = not (at_end r)

-- refusals of the whole
abbrev pub of_book : Refusal → Bool
of_book NoWait = true
of_book TooManyItems = true
of_book r = false

-- s is the draft of the first p words of a file
pub record DraftOf {S : Type 0} (Good : S → Type 0) (written : S → List ℕ) (bytes : List ℕ) (p : ℕ)
    (s : S) : Type 0 where
  pub good : Good s
  pub there : p ≤ length (words_of bytes)
  pub words : written s ≡ take p (words_of bytes)

-- where reading stops, the words before are those of a good draft
abbrev pub Begins : {S B : Type 0} → Format S B → (S → Type 0) → (S → List ℕ) → Type 0
Begins {S} f Good written =
    (bytes : List ℕ) (r : Refusal) (p : ℕ) → reading f bytes ≡ stop r p
    → (s : S) × DraftOf Good written bytes p s

-- words have one draft at most
abbrev pub OneDraft : {S : Type 0} → (S → Type 0) → (S → List ℕ) → Type 0
OneDraft {S} Good written =
    (bytes : List ℕ) (p : ℕ) (s t : S) → DraftOf Good written bytes p s
    → DraftOf Good written bytes p t → s ≡ t

-- with the word that is refused they are those of none, and it is no end word that may come
abbrev pub NoFurther : {S B : Type 0} → Format S B → (S → Type 0) → (S → List ℕ) → (S → Bool)
    → Type 0
NoFurther {S} f Good written may_end =
    (bytes : List ℕ) (r : Refusal) (p : ℕ) (s : S) → reading f bytes ≡ stop r p → IsTrue (of_word r)
    → DraftOf Good written bytes p s
    → ((t : S) → DraftOf Good written bytes (p + 1) t → ⊥)
    × (IsTrue (may_end s) → kind (word_at bytes p) ≢ 15)

-- the refusal is the first test that the word does not pass, after the draft of the words before
abbrev pub Least : {S B : Type 0} → Format S B → (S → Type 0) → (S → List ℕ)
    → (S → ℕ → Refusal → Bool) → Type 0
Least {S} f Good written passes =
    (bytes : List ℕ) (r : Refusal) (p : ℕ) (s : S) → reading f bytes ≡ stop r p → IsTrue (of_word r)
    → DraftOf Good written bytes p s
    → (p < length (words_of bytes))
    × (first_not_passed word_tests (passes s (word_at bytes p)) ≡ Some r)

-- a word that is read passes them all
abbrev pub PassesAll : {S : Type 0} → (S → Type 0) → (S → List ℕ) → (S → ℕ → Refusal → Bool)
    → Type 0
PassesAll {S} Good written passes =
    (bytes : List ℕ) (p : ℕ) (s t : S) → DraftOf Good written bytes p s
    → DraftOf Good written bytes (p + 1) t
    → first_not_passed word_tests (passes s (word_at bytes p)) ≡ None

-- CutOff: the next word is not there whole
abbrev pub CutsOff : {S B : Type 0} → Format S B → Type 0
CutsOff f = (bytes : List ℕ) (p : ℕ) → reading f bytes ≡ stop CutOff p → length bytes < 4 * (p + 1)

-- WrongEnd: an end word that may come has another number than that of the words before it, or bytes follow it
abbrev pub EndsWrong : {S B : Type 0} → Format S B → (S → Type 0) → (S → List ℕ) → (S → Bool)
    → Type 0
EndsWrong {S} f Good written may_end =
    (bytes : List ℕ) (p : ℕ) (s : S) → reading f bytes ≡ stop WrongEnd p
    → DraftOf Good written bytes p s
    → IsTrue (may_end s) × (kind (word_at bytes p) ≡ 15)
    × ((word_at bytes p ≢ end_word p) ⊎ (4 * (p + 1) < length bytes))

-- the whole is refused at an end word that may come and is right, with nothing after it; the refusal is the first test that the
-- whole fails
abbrev pub BookRefused : {S B : Type 0} → Format S B → (S → Type 0) → (S → List ℕ) → (S → Bool)
    → (S → Refusal → Bool) → Type 0
BookRefused {S} f Good written may_end closes =
    (bytes : List ℕ) (r : Refusal) (p : ℕ) (s : S) → reading f bytes ≡ stop r p → IsTrue (of_book r)
    → DraftOf Good written bytes p s
    → IsTrue (may_end s) × (word_at bytes p ≡ end_word p) × (length bytes ≡ 4 * (p + 1))
    × (first_not_passed book_tests (closes s) ≡ Some r)

-- bytes follow the word at place p
abbrev pub goes_on : List ℕ → ℕ → Bool
goes_on bytes p = nat_lt (4 * (p + 1)) (length bytes)

-- two files that agree through the word that is refused are refused alike
abbrev pub Alike : {S B : Type 0} → Format S B → Type 0
Alike f =
    (a b : List ℕ) (r : Refusal) (p : ℕ) → reading f a ≡ stop r p → IsFalse (at_end r) → take (4 * (p + 1)) a ≡ take (4 * (p + 1)) b
    → reading f b ≡ stop r p

-- at the end too, where bytes follow in both or in neither
abbrev pub AlikeAtEnd : {S B : Type 0} → Format S B → Type 0
AlikeAtEnd f =
    (a b : List ℕ) (r : Refusal) (p : ℕ) → reading f a ≡ stop r p → goes_on a p ≡ goes_on b p → take (4 * (p + 1)) a ≡ take (4 * (p + 1)) b
    → reading f b ≡ stop r p

-- the laws of a reader's refusals
pub record RefusesRightly {S B : Type 0} (f : Format S B) (Good : S → Type 0) (written : S → List ℕ)
    (may_end : S → Bool) (passes : S → ℕ → Refusal → Bool) (closes : S → Refusal → Bool) : Type 0 where
  pub begins : Begins f Good written
  pub one_draft : OneDraft Good written
  pub no_further : NoFurther f Good written may_end
  pub least : Least f Good written passes
  pub passes_all : PassesAll Good written passes
  pub cut_off : CutsOff f
  pub ends_wrong : EndsWrong f Good written may_end
  pub book_refused : BookRefused f Good written may_end closes
  pub alike : Alike f
  pub alike_at_end : AlikeAtEnd f
