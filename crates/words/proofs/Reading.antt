-- What holds of reading by any format: what one word does, and that a refusal's place is right.
use Rattle.std.proofs.Common.{◌≡◌, ℕ, suc, ◌+◌, ◌-◌, ◌*◌, ◌%◌, ◌^◌, ◌<◌, ◌≤◌, Bool, true, false, cond, ◌&&◌, eqb, List, [], ◌∷◌, length, take, drop, Ok, Err, Result, sym, refl, ap, ◌∙◌, subst, inl, inr, arith}
use Rattle.std.proofs.lemmas.Bool.{cases_Bool, cond-true, cond-false, and_from, and_left, and_right, eq-eqb, ne_eqb}
use Rattle.refusal.specs.declared.Refusal.{Refusal}
use Rattle.refusal.specs.declared.Refusal.TheVariants.{CutOff, WrongEnd}
use Rattle.words.specs.Words.{word_of, first_word}
use Rattle.words.specs.Format.{Step, wrong, more, ends, Verdict, got, stop, Format, closing, ending, run, PlacesRight}
use Rattle.words.specs.Tests.{none}

abbrev pub after : {S B : Type 0} → Format S B → S → ℕ → ℕ → List ℕ → Step S → Verdict B
after f s p w rest (wrong r) = stop r p
after f s p w rest (more t) = run f t (p + 1) rest
after f s p w rest ends = ending (f.finish s) p w (none rest)

module _ {S B : Type 0} (f : Format S B) where
  pub run_short : (s : S) (p : ℕ) (bytes : List ℕ) → length bytes < 4 → run f s p bytes ≡ stop CutOff p
  unfolding run
  run_short s p [] h = refl
  run_short s p (a ∷ []) h = refl
  run_short s p (a ∷ b ∷ []) h = refl
  run_short s p (a ∷ b ∷ c ∷ []) h = refl
  run_short s p (a ∷ b ∷ c ∷ d ∷ rest) h = absurd (omega arith)

  pub run_four : (s : S) (p a b c d : ℕ) (rest : List ℕ) → run f s p (a ∷ b ∷ c ∷ d ∷ rest) ≡ after f s p (word_of a b c d) rest (f.step s (word_of a b c d))
  unfolding run
  run_four s p a b c d rest =
      elim (f.step s (word_of a b c d)) as (λ st. elim st [ wrong r ↦ stop r p | more t ↦ run f t (p + 1) rest | ends ↦ ending (f.finish s) p (word_of a b c d) (none rest) ] ≡ after f s p (word_of a b c d) rest st)
      [ wrong r ↦ refl | more t ↦ refl | ends ↦ refl ]

  -- what the next word does
  pub run_word : (s : S) (p : ℕ) (bytes : List ℕ) → 4 ≤ length bytes → run f s p bytes ≡ after f s p (first_word bytes) (drop 4 bytes) (f.step s (first_word bytes))
  run_word s p [] h = absurd (omega arith)
  run_word s p (a ∷ []) h = absurd (omega arith)
  run_word s p (a ∷ b ∷ []) h = absurd (omega arith)
  run_word s p (a ∷ b ∷ c ∷ []) h = absurd (omega arith)
  run_word s p (a ∷ b ∷ c ∷ d ∷ rest) h = run_four s p a b c d rest

-- the place in a refusal
abbrev placed : {B : Type 0} → Verdict B → ℕ
placed (got b) = 0
placed (stop r p) = p

same_place : {B : Type 0} {r t : Refusal} {p q : ℕ} → ◌≡◌ {A = Verdict B} (stop r p) (stop t q) → p ≡ q
same_place e = ap placed e

pub ending_place : {B : Type 0} (whole : Result B Refusal) (p w : ℕ) (last : Bool) (r : Refusal) (q : ℕ) → ending whole p w last ≡ stop r q → p ≡ q
ending_place (Ok b) p w last r q e =
    elim (cases_Bool (eqb (w % 2 ^ 28) p && last)) [
      | inl t ↦ let z : ◌≡◌ {A = ℕ} 0 1 = cc (ap (λ t. cond t (closing (Ok b) p) (stop WrongEnd p)) t, e) in absurd (omega arith)
      | inr t ↦ same_place (sym (ap (λ t. cond t (closing (Ok b) p) (stop WrongEnd p)) t) ∙ e)
    ]
ending_place {B} (Err k) p w last r q e =
    elim (cases_Bool (eqb (w % 2 ^ 28) p && last)) [
      | inl t ↦ same_place {B = B} (sym (ap (λ t. cond t (closing (Err k) p) (stop WrongEnd p)) t) ∙ e)
      | inr t ↦ same_place {B = B} (sym (ap (λ t. cond t (closing (Err k) p) (stop WrongEnd p)) t) ∙ e)
    ]

module _ {S B : Type 0} (f : Format S B) where
  -- the words before a refusal, alone, run out exactly there
  abbrev RunsOut : S → ℕ → List ℕ → ℕ → Type 0
  RunsOut s p bytes q = (p ≤ q) × (run f s p (take (4 * (q - p)) bytes) ≡ stop CutOff q)

  runs_out_here : (s : S) (p : ℕ) (bytes : List ℕ) (q : ℕ) → p ≡ q → RunsOut s p bytes q
  unfolding run
  runs_out_here s p bytes q e =
      let none : 4 * (q - p) ≡ 0 = omega arith in
      (omega arith, ap (λ n. run f s p (take n bytes)) none ∙ ap (λ n. stop CutOff n) e)

  module _ (s : S) (p a b c d : ℕ) (rest : List ℕ) (r : Refusal) (q : ℕ) (e : run f s p (a ∷ b ∷ c ∷ d ∷ rest) ≡ stop r q) (below : (t : S) → run f t (p + 1) rest ≡ stop r q → RunsOut t (p + 1) rest q) where
    runs_out_four : (st : Step S) → f.step s (word_of a b c d) ≡ st → RunsOut s p (a ∷ b ∷ c ∷ d ∷ rest) q
    runs_out_four (wrong k) is = runs_out_here s p (a ∷ b ∷ c ∷ d ∷ rest) q (same_place (sym (run_four f s p a b c d rest ∙ ap (after f s p (word_of a b c d) rest) is) ∙ e))
    runs_out_four ends is = runs_out_here s p (a ∷ b ∷ c ∷ d ∷ rest) q (ending_place (f.finish s) p (word_of a b c d) (none rest) r q (sym (run_four f s p a b c d rest ∙ ap (after f s p (word_of a b c d) rest) is) ∙ e))
    runs_out_four (more t) is =
        let later = below t (sym (run_four f s p a b c d rest ∙ ap (after f s p (word_of a b c d) rest) is) ∙ e) in
        let up : p + 1 ≤ q = later.0 in
        let four : 4 * (q - p) ≡ suc (suc (suc (suc (4 * (q - (p + 1)))))) = omega arith in
        (omega arith, ap (λ n. run f s p (take n (a ∷ b ∷ c ∷ d ∷ rest))) four ∙ run_four f s p a b c d (take (4 * (q - (p + 1))) rest) ∙ ap (after f s p (word_of a b c d) (take (4 * (q - (p + 1))) rest)) is ∙ later.1)

  runs_out : (s : S) (p : ℕ) (bytes : List ℕ) (r : Refusal) (q : ℕ) → run f s p bytes ≡ stop r q → RunsOut s p bytes q
  unfolding run
  runs_out s p [] r q e = runs_out_here s p [] q (same_place e)
  runs_out s p (a ∷ []) r q e = runs_out_here s p (a ∷ []) q (same_place e)
  runs_out s p (a ∷ b ∷ []) r q e = runs_out_here s p (a ∷ b ∷ []) q (same_place e)
  runs_out s p (a ∷ b ∷ c ∷ []) r q e = runs_out_here s p (a ∷ b ∷ c ∷ []) q (same_place e)
  runs_out s p (a ∷ b ∷ c ∷ d ∷ rest) r q e = runs_out_four s p a b c d rest r q e (λ t h. runs_out t (p + 1) rest r q h) (f.step s (word_of a b c d)) refl

  -- a refusal's place is right
  pub places_right : PlacesRight f
  places_right bytes r p e =
      let same : p - 0 ≡ p = omega arith in
      subst (λ n. run f f.start 0 (take (4 * n) bytes) ≡ stop CutOff p) same (runs_out f.start 0 bytes r p e).1

-- one turn of a reader: what the word that was taken does
pub turn : {S B : Type 0} (f : Format S B) (s : S) (p : ℕ) (left rest : List ℕ) (w : ℕ) (st : Step S) → (4 ≤ length left) × (w ≡ first_word left) × (rest ≡ drop 4 left) → st ≡ f.step s w → run f s p left ≡ after f s p w rest st
turn f s p left rest w st (four, word, tail) is =
    run_word f s p left four
    ∙ ap (λ x. after f s p x (drop 4 left) (f.step s x)) (sym word)
    ∙ ap (λ l. after f s p w l (f.step s w)) (sym tail)
    ∙ ap (after f s p w rest) (sym is)

nil_since : (rest : List ℕ) → length rest ≡ 0 → none rest ≡ true
nil_since [] h = refl
nil_since (x ∷ rest) h = absurd (omega arith)

some_since : (rest : List ℕ) → (length rest ≡ 0 → ⊥) → none rest ≡ false
some_since [] h = absurd (h refl)
some_since (x ∷ rest) h = refl

-- an end word with the right number, and nothing after it
pub right_end : {B : Type 0} (whole : Result B Refusal) (p w : ℕ) (rest : List ℕ) → w % 2 ^ 28 ≡ p → length rest ≡ 0 → ending whole p w (none rest) ≡ closing whole p
right_end whole p w rest own end = cond-true (eqb (w % 2 ^ 28) p && none rest) (closing whole p) (stop WrongEnd p) (and_from (eqb (w % 2 ^ 28) p) (none rest) (eq-eqb (w % 2 ^ 28) p own) (nil_since rest end))

pub wrong_number : {B : Type 0} (whole : Result B Refusal) (p w : ℕ) (rest : List ℕ) → (w % 2 ^ 28 ≡ p → ⊥) → ending whole p w (none rest) ≡ stop WrongEnd p
wrong_number whole p w rest other = cond-false (eqb (w % 2 ^ 28) p && none rest) (closing whole p) (stop WrongEnd p) (and_left (eqb (w % 2 ^ 28) p) (none rest) (ne_eqb (w % 2 ^ 28) p other))

pub more_after : {B : Type 0} (whole : Result B Refusal) (p w : ℕ) (rest : List ℕ) → (length rest ≡ 0 → ⊥) → ending whole p w (none rest) ≡ stop WrongEnd p
more_after whole p w rest some = cond-false (eqb (w % 2 ^ 28) p && none rest) (closing whole p) (stop WrongEnd p) (and_right (eqb (w % 2 ^ 28) p) (none rest) (some_since rest some))
