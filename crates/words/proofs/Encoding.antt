-- What a format owes so that its files are just the encodings of valid books: an account of the words read so far, and the
-- way of a valid book through the format.
use Rattle.std.proofs.Common.{◌≡◌, ℕ, suc, ◌+◌, ◌*◌, ◌/◌, ◌%◌, ◌^◌, ◌<◌, true, cond, ◌&&◌, eqb, List, [], ◌∷◌, ◌++◌, length, Ok, Err, Result, sym, refl, ap, ◌∙◌, subst, inl, inr, append_assoc, mod-eq_of_lt, arith, lit<}
use Rattle.std.proofs.lemmas.Bool.{cases_Bool, and_parts, eqb-true, eq-eqb, and_from}
use Rattle.std.proofs.lemmas.List.{length_push}
use Rattle.std.proofs.lemmas.Nat.{shr-shr, div-add-mod', div_below}
use Rattle.refusal.specs.declared.Refusal.{Refusal}
use Rattle.refusal.specs.declared.Refusal.TheVariants.{WrongEnd}
use Rattle.words.specs.Words.{word_of, end_word, bytes_of, Bytes, kind}
use Rattle.words.specs.Format.{Step, wrong, more, ends, got, stop, Format, closing, ending, run, reading, file, OnlyEncodings}
use Rattle.words.specs.Tests.{none}
use Rattle.words.proofs.Reading.{after, run_four}

pub bytes_append : (xs ys : List ℕ) → bytes_of (xs ++ ys) ≡ bytes_of xs ++ bytes_of ys
bytes_append [] ys = refl
bytes_append (w ∷ xs) ys = ap (λ l. w % 256 ∷ (w / 256 % 256 ∷ (w / 65536 % 256 ∷ (w / 16777216 % 256 ∷ l)))) (bytes_append xs ys)

-- the bytes of a word are those it was made of
pub bytes_of_word : (a b c d : ℕ) (ws : List ℕ) → a < 256 → b < 256 → c < 256 → d < 256 → bytes_of (word_of a b c d ∷ ws) ≡ a ∷ (b ∷ (c ∷ (d ∷ bytes_of ws)))
bytes_of_word a b c d ws ha hb hc hd =
    let q1 : word_of a b c d / 256 ≡ b + 256 * c + 65536 * d = omega arith in
    let q2 : word_of a b c d / 65536 ≡ c + 256 * d = omega arith in
    let q3 : word_of a b c d / 16777216 ≡ d = omega arith in
    let ea : word_of a b c d % 256 ≡ a = omega arith in
    let rb : (b + 256 * c + 65536 * d) % 256 ≡ b = omega arith in
    let rc : (c + 256 * d) % 256 ≡ c = omega arith in
    let rd : d % 256 ≡ d = omega arith in
    let eb : word_of a b c d / 256 % 256 ≡ b = ap (λ x. x % 256) q1 ∙ rb in
    let ec : word_of a b c d / 65536 % 256 ≡ c = ap (λ x. x % 256) q2 ∙ rc in
    let ed : word_of a b c d / 16777216 % 256 ≡ d = ap (λ x. x % 256) q3 ∙ rd in
    cc

pub word_of_bytes : (w : ℕ) → w < 2 ^ 32 → word_of (w % 256) (w / 256 % 256) (w / 65536 % 256) (w / 16777216 % 256) ≡ w
word_of_bytes w h =
    let e2 : w / 256 / 256 ≡ w / 65536 = shr-shr w 8 8 in
    let e3 : w / 65536 / 256 ≡ w / 16777216 = shr-shr w 16 8 in
    let d1 = div-add-mod' w 256 in
    let d2 = div-add-mod' (w / 256) 256 in
    let d3 = div-add-mod' (w / 65536) 256 in
    let top : w / 16777216 < 256 = div_below w 16777216 256 (lit< tt) h in
    let d4 : w / 16777216 % 256 ≡ w / 16777216 = mod-eq_of_lt top in
    omega (arith, ap (λ x. x * 256) e2, ap (λ x. x * 256) e3)

pub stop_is_no_book : {B : Type 0} {r : Refusal} {p : ℕ} {b : B} → stop r p ≡ got b → ⊥
stop_is_no_book e = let z : ◌≡◌ {A = ℕ} 0 1 = cc in omega arith

nil_from : (rest : List ℕ) → none rest ≡ true → rest ≡ []
nil_from [] e = refl
nil_from (x ∷ rest) e = let z : ◌≡◌ {A = ℕ} 0 1 = cc in absurd (omega arith)

closes : {B : Type 0} (whole : Result B Refusal) (p : ℕ) (b : B) → closing whole p ≡ got b → whole ≡ Ok b
closes (Ok x) p b e = cc
closes (Err r) p b e = absurd (stop_is_no_book e)

pub whole_of : {B : Type 0} (whole : Result B Refusal) (p w : ℕ) (rest : List ℕ) (b : B) → ending whole p w (none rest) ≡ got b → (w % 2 ^ 28 ≡ p) × (rest ≡ []) × (whole ≡ Ok b)
whole_of {B} whole p w rest b e =
    elim (cases_Bool (eqb (w % 2 ^ 28) p && none rest)) [
      | inl t ↦
          let parts = and_parts _ _ t in
          (eqb-true _ _ parts.0, nil_from rest parts.1, closes whole p b (sym (ap (λ t. cond t (closing whole p) (stop WrongEnd p)) t) ∙ e))
      | inr t ↦ absurd (stop_is_no_book {B = B} (sym (ap (λ t. cond t (closing whole p) (stop WrongEnd p)) t) ∙ e))
    ]

module _ {S B : Type 0} (f : Format S B) (Valid : B → Type 0) (words : B → List ℕ) (Good : S → Type 0) (written : S → List ℕ)
    (steps : (s t : S) (w : ℕ) → w < 2 ^ 32 → Good s → f.step s w ≡ more t → Good t × (written t ≡ written s ++ (w ∷ [])))
    (ends-well : (s : S) (w : ℕ) → w < 2 ^ 32 → Good s → f.step s w ≡ ends → kind w ≡ 15)
    (finishes : (s : S) (b : B) → Good s → f.finish s ≡ Ok b → Valid b × (written s ≡ words b))
  where
    abbrev Accounts : S → List ℕ → B → Type 0
    Accounts s bytes b = Valid b × (bytes_of (written s) ++ bytes ≡ file (words b))

    module _ (s : S) (p a b c d : ℕ) (rest : List ℕ) (book : B) (good : Good s) (at : p ≡ length (written s)) (fit : Bytes (a ∷ b ∷ c ∷ d ∷ rest)) (e : run f s p (a ∷ b ∷ c ∷ d ∷ rest) ≡ got book)
        (below : (t : S) → Good t → p + 1 ≡ length (written t) → run f t (p + 1) rest ≡ got book → Accounts t rest book)
      where
        accounts_four : (st : Step S) → f.step s (word_of a b c d) ≡ st → Accounts s (a ∷ b ∷ c ∷ d ∷ rest) book
        accounts_four (wrong k) is = absurd (stop_is_no_book (sym (run_four f s p a b c d rest ∙ ap (after f s p (word_of a b c d) rest) is) ∙ e))
        accounts_four (more t) is =
            let low : word_of a b c d < 2 ^ 32 = omega (arith, fit.0, fit.1.0, fit.1.1.0, fit.1.1.1.0) in
            let next = steps s t (word_of a b c d) low good is in
            let later = below t next.0 (ap (λ n. n + 1) at ∙ sym (ap length next.1 ∙ length_push (written s) (word_of a b c d))) (sym (run_four f s p a b c d rest ∙ ap (after f s p (word_of a b c d) rest) is) ∙ e) in
            (later.0, sym (ap (λ l. l ++ rest) (ap bytes_of next.1 ∙ bytes_append (written s) (word_of a b c d ∷ []) ∙ ap (λ l. bytes_of (written s) ++ l) (bytes_of_word a b c d [] fit.0 fit.1.0 fit.1.1.0 fit.1.1.1.0)) ∙ append_assoc (bytes_of (written s)) (a ∷ b ∷ c ∷ d ∷ []) rest) ∙ later.1)
        accounts_four ends is =
            let low : word_of a b c d < 2 ^ 32 = omega (arith, fit.0, fit.1.0, fit.1.1.0, fit.1.1.1.0) in
            let told = whole_of (f.finish s) p (word_of a b c d) rest book (sym (run_four f s p a b c d rest ∙ ap (after f s p (word_of a b c d) rest) is) ∙ e) in
            let done = finishes s book good told.2 in
            let fifteen = ends-well s (word_of a b c d) low good is in
            let last : word_of a b c d ≡ end_word (length (written s)) = omega (arith, told.0, fifteen, at) in
            let line : bytes_of (word_of a b c d ∷ []) ≡ a ∷ (b ∷ (c ∷ (d ∷ []))) = bytes_of_word a b c d [] fit.0 fit.1.0 fit.1.1.0 fit.1.1.1.0 in (
              done.0,
              ap (λ l. bytes_of (written s) ++ (a ∷ (b ∷ (c ∷ (d ∷ l))))) told.1
                  ∙ ap (λ l. bytes_of (written s) ++ l) (sym line ∙ ap (λ w. bytes_of (w ∷ [])) last)
                  ∙ sym (bytes_append (written s) (end_word (length (written s)) ∷ []))
                  ∙ ap file done.1,
            )

    accounts : (s : S) (p : ℕ) (bytes : List ℕ) (book : B) → Good s → p ≡ length (written s) → Bytes bytes → run f s p bytes ≡ got book → Accounts s bytes book
    unfolding run
    accounts s p [] book good at fit e = absurd (stop_is_no_book e)
    accounts s p (a ∷ []) book good at fit e = absurd (stop_is_no_book e)
    accounts s p (a ∷ b ∷ []) book good at fit e = absurd (stop_is_no_book e)
    accounts s p (a ∷ b ∷ c ∷ []) book good at fit e = absurd (stop_is_no_book e)
    accounts s p (a ∷ b ∷ c ∷ d ∷ rest) book good at fit e =
        accounts_four s p a b c d rest book good at fit e (λ t g n h. accounts t (p + 1) rest book g n fit.1.1.1.1 h) (f.step s (word_of a b c d)) refl

    -- whatever is accepted is the encoding of the book that was read
    pub only_encodings : Good f.start → written f.start ≡ [] → OnlyEncodings f Valid words
    only_encodings good none bytes book fit e =
        let told = accounts f.start 0 bytes book good (sym (ap length none)) fit e in
        (told.0, sym (ap (λ l. bytes_of l ++ bytes) none) ∙ told.1)

-- the words ws lead from s to t
abbrev pub Passes : {S B : Type 0} → Format S B → S → List ℕ → S → Type 0
Passes f s [] t = s ≡ t
Passes {S} f s (w ∷ ws) t = (u : S) × ((f.step s w ≡ more u) × ((w < 2 ^ 32) × Passes f u ws t))

module _ {S B : Type 0} (f : Format S B) where
  pub passes_append : (ws vs : List ℕ) (s t u : S) → Passes f s ws t → Passes f t vs u → Passes f s (ws ++ vs) u
  passes_append [] vs s t u e h = subst (λ x. Passes f x vs u) (sym e) h
  passes_append (w ∷ ws) vs s t u (x, (e, (low, way))) h = (x, (e, (low, passes_append ws vs x t u way h)))

  along : (s : S) (p : ℕ) (ws : List ℕ) (tail : List ℕ) (t : S) → Passes f s ws t → run f s p (bytes_of ws ++ tail) ≡ run f t (p + length ws) tail
  along s p [] tail t e =
      let same : p + 0 ≡ p = omega arith in
      ap (λ x. run f x p tail) e ∙ ap (λ n. run f t n tail) (sym same)
  along s p (w ∷ ws) tail t (u, (e, (low, rest))) =
      let same : p + 1 + length ws ≡ p + suc (length ws) = omega arith in
      run_four f s p _ _ _ _ (bytes_of ws ++ tail)
      ∙ ap (λ x. after f s p x (bytes_of ws ++ tail) (f.step s x)) (word_of_bytes w low)
      ∙ ap (after f s p w (bytes_of ws ++ tail)) e
      ∙ along u (p + 1) ws tail t rest
      ∙ ap (λ n. run f t n tail) same

  -- a book whose words lead to an end is read from its file
  pub reads_file : (ws : List ℕ) (t : S) (b : B) → Passes f f.start ws t → length ws < 2 ^ 28 → f.step t (end_word (length ws)) ≡ ends → f.finish t ≡ Ok b → reading f (file ws) ≡ got b
  reads_file ws t b way few end whole =
      let n : 0 + length ws ≡ length ws = omega arith in
      let low : end_word (length ws) < 2 ^ 32 = omega arith in
      let own : end_word (length ws) % 2 ^ 28 ≡ length ws = omega arith in
      ap (run f f.start 0) (bytes_append ws (end_word (length ws) ∷ []))
      ∙ along f.start 0 ws (bytes_of (end_word (length ws) ∷ [])) t way
      ∙ ap (λ k. run f t k (bytes_of (end_word (length ws) ∷ []))) n
      ∙ run_four f t (length ws) _ _ _ _ []
      ∙ ap (λ x. after f t (length ws) x [] (f.step t x)) (word_of_bytes (end_word (length ws)) low)
      ∙ ap (after f t (length ws) (end_word (length ws)) []) end
      ∙ ap (λ x. cond x (closing (f.finish t) (length ws)) (stop WrongEnd (length ws))) (and_from _ _ (eq-eqb _ _ own) refl)
      ∙ ap (λ x. closing x (length ws)) whole
