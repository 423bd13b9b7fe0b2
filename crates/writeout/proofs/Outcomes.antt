-- What the answer of writing out tells. For others: `Wrote` and `wrote`, that the states of a book that was written are few and its words
-- fit; `not_written`, why none was.
use Rattle.std.proofs.Common.{◌≡◌, ℕ, ◌*◌, ◌<◌, ◌≤◌, Bool, true, false, [], ◌∷◌, length, Ok, Err, Result, ◌⊎◌, inl, inr, sym, ap, ◌∙◌, ⊎_elim, arith}
use Rattle.std.proofs.lemmas.Bool.{cases_Bool, leb-true, leb-false}
use Rattle.model.specs.Models.{Model}
use Rattle.reach.specs.Adding.{room_in}
use Rattle.reach.specs.Search.{codes_of}
use Rattle.refusal.specs.declared.Refusal.{Refusal}
use Rattle.refusal.specs.declared.Refusal.TheVariants.{TooManyStates, BookTableShort}
use Rattle.refusal.specs.Rows.{first_failing, unless}
use Rattle.writeout.specs.declared.Written.{Written}
use Rattle.writeout.specs.Tables.{Writable, enough_places, enough_space, outcome, word_count}

pub record Wrote (m : Model) (space : ℕ) (w : Written) : Type 0 where
  pub few : Writable m
  pub states : w.states ≡ length (codes_of m)
  pub words : w.words ≡ word_count m
  pub room : 4 * word_count m ≤ space

abbrev pub NotWritten : Model → ℕ → ℕ → Refusal → Type 0
NotWritten m places space r =
    ((r ≡ TooManyStates) × (room_in places < length (codes_of m)))
    ⊎ ((r ≡ BookTableShort) × Writable m × (space < 4 * word_count m))

module _ (m : Model) (places space : ℕ) where
  abbrev whole : Written
  whole = record { states = length (codes_of m); words = word_count m }

  -- the answer, by what the two tests say
  abbrev answer : Bool → Bool → Result Written Refusal
  answer many short = unless (first_failing ((many, TooManyStates) ∷ (short, BookTableShort) ∷ [])) whole

  told : (many short : Bool) → enough_places m places ≡ many → enough_space m space ≡ short → outcome m places space ≡ answer many short
  told many short p s = λ i. answer (p i) (s i)

  pub wrote : (w : Written) → outcome m places space ≡ Ok w → Wrote m space w
  wrote w e =
      ⊎_elim
      (λ (p : enough_places m places ≡ true).
      ⊎_elim
      (λ (s : enough_space m space ≡ true).
      let is : ◌≡◌ {A = Result Written Refusal} (Ok whole) (Ok w) = sym (told true true p s) ∙ e in
      let same : whole ≡ w = cc in
      record {
        few = omega (arith, leb-true (length (codes_of m)) (room_in places) p);
        states = sym (ap (λ (v : Written). v.states) same);
        words = sym (ap (λ (v : Written). v.words) same);
        room = leb-true (4 * word_count m) space s;
      })
      (λ (s : enough_space m space ≡ false).
      let is : ◌≡◌ {A = Result Written Refusal} (Err BookTableShort) (Ok w) = sym (told true false p s) ∙ e in
      absurd (cc))
      (cases_Bool (enough_space m space)))
      (λ (p : enough_places m places ≡ false).
      let is : ◌≡◌ {A = Result Written Refusal} (Err TooManyStates) (Ok w) = sym (told false (enough_space m space) p (λ i. enough_space m space)) ∙ e in
      absurd (cc))
      (cases_Bool (enough_places m places))

  pub not_written : (r : Refusal) → outcome m places space ≡ Err r → NotWritten m places space r
  not_written r e =
      ⊎_elim
      (λ (p : enough_places m places ≡ true).
      ⊎_elim
      (λ (s : enough_space m space ≡ true).
      let is : ◌≡◌ {A = Result Written Refusal} (Ok whole) (Err r) = sym (told true true p s) ∙ e in
      absurd (cc))
      (λ (s : enough_space m space ≡ false).
      let is : ◌≡◌ {A = Result Written Refusal} (Err BookTableShort) (Err r) = sym (told true false p s) ∙ e in
      let few : Writable m = omega (arith, leb-true (length (codes_of m)) (room_in places) p) in
      inr (cc, few, leb-false (4 * word_count m) space s))
      (cases_Bool (enough_space m space)))
      (λ (p : enough_places m places ≡ false).
      let is : ◌≡◌ {A = Result Written Refusal} (Err TooManyStates) (Err r) = sym (told false (enough_space m space) p (λ i. enough_space m space)) ∙ e in
      inl (cc, leb-false (length (codes_of m)) (room_in places) p))
      (cases_Bool (enough_places m places))
