-- What a format owes so that its refusals are right (`refuses_rightly`): beside the account of the words read so far, that the words of a
-- draft lead to it, and what its tests say of one word and of the whole.
use Rattle.std.proofs.Common.{◌≡◌, ℕ, zero, suc, ◌+◌, ◌-◌, ◌*◌, ◌%◌, ◌^◌, ◌<◌, ◌≤◌, ◌⊎◌, Bool, true, false, not, ◌&&◌, eqb, ltb, List, [], ◌∷◌, ◌++◌, length, take, drop, Some, None, Option, Ok, Err, Result, sym, refl, ap, ◌∙◌, subst, inl, inr, append_assoc, append-nil, arith, rules}
use Rattle.std.specs.Prelude.{find}
use Rattle.std.proofs.lemmas.Bool.{cases_Bool, and_parts, and_from, eq-eqb, eqb-true, cond-true, cond-false, ltb-true, ltb-false, lt-ltb, le-ltb, true≢false}
use Rattle.std.proofs.lemmas.List.{length-take, length-drop, drop-take}
use Rattle.std.proofs.lemmas.Nat.{div-add-mod'}
use Rattle.std.proofs.Math.Seq.{take-suc}
use Rattle.refusal.specs.declared.Refusal.{Refusal}
use Rattle.refusal.specs.declared.Refusal.TheVariants.{CutOff, WrongEnd}
use Rattle.words.specs.Words.{word_of, first_word, end_word, kind, words_of, word_at}
use Rattle.words.specs.Format.{Step, wrong, more, ends, Verdict, stop, Format, closing, ending, run, reading}
use Rattle.words.specs.Tests.{all, none}
use Rattle.words.specs.Refusing.{word_tests, book_tests, first_not_passed, at_end, of_word, of_book, DraftOf, OneDraft, NoFurther, Least, PassesAll, CutsOff, EndsWrong, BookRefused, goes_on, Alike, AlikeAtEnd, RefusesRightly}
use Rattle.words.proofs.Reading.{after, run_short, run_four, run_word, ending_place}
use Rattle.words.proofs.Encoding.{Passes, stop_is_no_book}
use Rattle.words.proofs.Tests.{same_more, wrong_is_not_more, wrong_is_not_end}

-- what a word is refused with, and the whole
abbrev pub refused : {S : Type 0} → Step S → Option Refusal
refused (wrong r) = Some r
refused (more t) = None
refused ends = None

abbrev pub why_not : {B : Type 0} → Result B Refusal → Option Refusal
why_not (Ok b) = None
why_not (Err r) = Some r

-- what is found has what all have
found : {X : Type 0} (P Q : X → Bool) (xs : List X) (x : X) → all Q xs ≡ true → find P xs ≡ Some x → Q x ≡ true
found P Q [] x h e = let z : ◌≡◌ {A = ℕ} 0 1 = cc in absurd (omega arith)
found P Q (y ∷ ys) x h e =
    let parts = and_parts (Q y) (all Q ys) h in
    elim (cases_Bool (P y)) [
      | inl t ↦ let same : y ≡ x = cc (sym (cond-true (P y) (Some y) (find P ys) t) ∙ e) in subst (λ z. Q z ≡ true) same parts.0
      | inr n ↦ found P Q ys x parts.1 (sym (cond-false (P y) (Some y) (find P ys) n) ∙ e)
    ]

pub tests_word : (passes : Refusal → Bool) (r : Refusal) → first_not_passed word_tests passes ≡ Some r → of_word r ≡ true
tests_word passes r e = found (λ r. not (passes r)) of_word word_tests r refl e

pub tests_book : (passes : Refusal → Bool) (r : Refusal) → first_not_passed book_tests passes ≡ Some r → of_book r ≡ true
tests_book passes r e = found (λ r. not (passes r)) of_book book_tests r refl e

-- the first four bytes make the first word
first_taken : (l : List ℕ) → 4 ≤ length l → first_word (take 4 l) ≡ first_word l
first_taken [] h = absurd (omega arith)
first_taken (a ∷ []) h = absurd (omega arith)
first_taken (a ∷ b ∷ []) h = absurd (omega arith)
first_taken (a ∷ b ∷ c ∷ []) h = absurd (omega arith)
first_taken (a ∷ b ∷ c ∷ d ∷ rest) h = refl

four_taken : (a b : List ℕ) → take 4 a ≡ take 4 b → 4 ≤ length a → 4 ≤ length b
four_taken a b e h = omega (arith, ap length e, length-take 4 a, length-take 4 b)

take_within : (n m : ℕ) (l : List ℕ) → take n (take (n + m) l) ≡ take n l
take_within zero m l = refl
take_within (suc n) m [] =
    let up : suc n + m ≡ suc (n + m) = omega arith in
    ap (λ k. take (suc n) (take k [])) up
take_within (suc n) m (x ∷ l) =
    let up : suc n + m ≡ suc (n + m) = omega arith in
    ap (λ k. take (suc n) (take k (x ∷ l))) up ∙ ap (λ t. x ∷ t) (take_within n m l)

-- what two lists agree in that agree in the first n and m more
agree_first : (n m : ℕ) (a b : List ℕ) → take (n + m) a ≡ take (n + m) b → take n a ≡ take n b
agree_first n m a b e = sym (take_within n m a) ∙ ap (take n) e ∙ take_within n m b

agree_then : (n m : ℕ) (a b : List ℕ) → take (n + m) a ≡ take (n + m) b → take m (drop n a) ≡ take m (drop n b)
agree_then n m a b e = sym (drop-take n m a) ∙ ap (drop n) e ∙ drop-take n m b

nil_same : (a b : List ℕ) → ltb 0 (length a) ≡ ltb 0 (length b) → none a ≡ none b
nil_same [] [] e = refl
nil_same [] (y ∷ b) e = absurd (true≢false (sym (lt-ltb 0 (length (y ∷ b)) (omega arith)) ∙ sym e))
nil_same (x ∷ a) [] e = absurd (true≢false (sym (lt-ltb 0 (length (x ∷ a)) (omega arith)) ∙ e))
nil_same (x ∷ a) (y ∷ b) e = refl

-- a refusal of the whole is none of a word
no_word_of : (r : Refusal) → of_book r ≡ true → of_word r ≡ false
no_word_of r e = search rules

end_of_book : (r : Refusal) → of_book r ≡ true → at_end r ≡ true
end_of_book r e = search rules

-- the words of a file, and its bytes

word_there : (q : ℕ) (bytes : List ℕ) → 4 * (q + 1) ≤ length bytes → (q < length (words_of bytes)) × (word_at bytes q ≡ first_word (drop (4 * q) bytes))
word_there q [] h = absurd (omega arith)
word_there q (a ∷ []) h = absurd (omega arith)
word_there q (a ∷ b ∷ []) h = absurd (omega arith)
word_there q (a ∷ b ∷ c ∷ []) h = absurd (omega arith)
word_there zero (a ∷ b ∷ c ∷ d ∷ rest) h = (omega arith, refl)
word_there (suc q) (a ∷ b ∷ c ∷ d ∷ rest) h =
    let later = word_there q rest (omega arith) in
    let four : 4 * suc q ≡ suc (suc (suc (suc (4 * q)))) = omega arith in
    (omega (arith, later.0), later.1 ∙ ap first_word (sym (ap (λ n. drop n (a ∷ b ∷ c ∷ d ∷ rest)) four)))

bytes_there : (p : ℕ) (bytes : List ℕ) → p ≤ length (words_of bytes) → 4 * p ≤ length bytes
bytes_there zero bytes h = omega arith
bytes_there (suc p) [] h = absurd (omega arith)
bytes_there (suc p) (a ∷ []) h = absurd (omega arith)
bytes_there (suc p) (a ∷ b ∷ []) h = absurd (omega arith)
bytes_there (suc p) (a ∷ b ∷ c ∷ []) h = absurd (omega arith)
bytes_there (suc p) (a ∷ b ∷ c ∷ d ∷ rest) h = omega (arith, bytes_there p rest (omega arith))

-- how an end word may be refused
EndedBy : {B : Type 0} → Result B Refusal → ℕ → ℕ → Bool → Refusal → Type 0
EndedBy whole p w last r = ((r ≡ WrongEnd) × ((w % 2 ^ 28 ≡ p → ⊥) ⊎ (last ≡ false))) ⊎ ((w % 2 ^ 28 ≡ p) × (last ≡ true) × (whole ≡ Err r))

same_stop : {B : Type 0} {r t : Refusal} {p q : ℕ} → ◌≡◌ {A = Verdict B} (stop r p) (stop t q) → (r ≡ t) × (p ≡ q)
same_stop e = (cc, cc)

closed_by : {B : Type 0} (whole : Result B Refusal) (p : ℕ) (r : Refusal) (q : ℕ) → closing whole p ≡ stop r q → whole ≡ Err r
closed_by (Ok b) p r q e = absurd (stop_is_no_book (sym e))
closed_by (Err t) p r q e = ap Err (same_stop e).0

ended_by : {B : Type 0} (whole : Result B Refusal) (p w : ℕ) (last : Bool) (r : Refusal) (q : ℕ) → ending whole p w last ≡ stop r q → EndedBy whole p w last r
unfolding EndedBy
ended_by whole p w last r q e =
    elim (cases_Bool (eqb (w % 2 ^ 28) p && last)) [
      | inl t ↦
          let parts = and_parts (eqb (w % 2 ^ 28) p) last t in
          inr (eqb-true (w % 2 ^ 28) p parts.0, parts.1, closed_by whole p r q (sym (cond-true (eqb (w % 2 ^ 28) p && last) (closing whole p) (stop WrongEnd p) t) ∙ e))
      | inr n ↦
          let is = same_stop (sym (cond-false (eqb (w % 2 ^ 28) p && last) (closing whole p) (stop WrongEnd p) n) ∙ e) in
          inl (
            sym is.0,
            elim (cases_Bool last) [
              | inr follows ↦ inr follows
              | inl bare ↦ inl (λ own. absurd (true≢false (sym (and_from (eqb (w % 2 ^ 28) p) last (eq-eqb (w % 2 ^ 28) p own) bare) ∙ n)))
            ],
          )
    ]

nil_length : (l : List ℕ) → none l ≡ true → length l ≡ 0
nil_length [] e = refl
nil_length (x ∷ l) e = absurd (true≢false (sym e))

some_length : (l : List ℕ) → none l ≡ false → 0 < length l
some_length [] e = absurd (true≢false e)
some_length (x ∷ l) e = omega arith

-- a word of the end's kind is the end word of p where its number is p
end_is : (w p : ℕ) → kind w ≡ 15 → w % 2 ^ 28 ≡ p → w ≡ end_word p
end_is w p e h = omega (arith, div-add-mod' w (2 ^ 28))

end_own : (w p : ℕ) → kind w ≡ 15 → w ≡ end_word p → w % 2 ^ 28 ≡ p
end_own w p e h = omega (arith, div-add-mod' w (2 ^ 28))

module _ {S B : Type 0} (f : Format S B) (Good : S → Type 0) (written : S → List ℕ)
    (steps : (s t : S) (w : ℕ) → Good s → f.step s w ≡ more t → Good t × (written t ≡ written s ++ (w ∷ [])))
  where
    -- why reading stops at a word, with what is left of the file
    data Halts (s : S) (p : ℕ) (left : List ℕ) (r : Refusal) : Type 0 where
      short : length left < 4 → r ≡ CutOff → Halts s p left r
      refuses : 4 ≤ length left → f.step s (first_word left) ≡ wrong r → Halts s p left r
      closes_at : 4 ≤ length left → f.step s (first_word left) ≡ ends → ending (f.finish s) p (first_word left) (none (drop 4 left)) ≡ stop r p → Halts s p left r

    -- the draft where reading stops, from the draft s at place p on
    record Reached (s : S) (p : ℕ) (bytes : List ℕ) (r : Refusal) (q : ℕ) : Type 0 where
      draft : S
      many : ℕ
      at : q ≡ p + many
      there : many ≤ length (words_of bytes)
      good : Good draft
      words : written draft ≡ written s ++ take many (words_of bytes)
      halts : Halts draft q (drop (4 * many) bytes) r
      again : (b : List ℕ) → take (4 * many) b ≡ take (4 * many) bytes → run f s p b ≡ run f draft q (drop (4 * many) b)

    reached_here : (s : S) (p : ℕ) (bytes : List ℕ) (r : Refusal) (q : ℕ) → Good s → p ≡ q → Halts s q bytes r → Reached s p bytes r q
    reached_here s p bytes r q good here h = record {
      draft = s;
      many = 0;
      at = omega arith;
      there = omega arith;
      good = good;
      words = sym (append-nil (written s));
      halts = h;
      again = λ b e. ap (λ n. run f s n b) here;
    }

    module _ (s : S) (p a b c d : ℕ) (rest : List ℕ) (r : Refusal) (q : ℕ) (good : Good s) (e : run f s p (a ∷ b ∷ c ∷ d ∷ rest) ≡ stop r q)
        (below : (t : S) → Good t → run f t (p + 1) rest ≡ stop r q → Reached t (p + 1) rest r q)
      where
        abbrev next : ℕ
        next = word_of a b c d

        on : (st : Step S) → f.step s next ≡ st → after f s p next rest st ≡ stop r q
        on st is = sym (run_four f s p a b c d rest ∙ ap (after f s p next rest) is) ∙ e

        again_four : (t : S) → f.step s next ≡ more t → (n : ℕ) (u : S) → ((v : List ℕ) → take (4 * n) v ≡ take (4 * n) rest → run f t (p + 1) v ≡ run f u q (drop (4 * n) v))
            → (v : List ℕ) → take (4 * suc n) v ≡ take (4 * suc n) (a ∷ b ∷ c ∷ d ∷ rest) → run f s p v ≡ run f u q (drop (4 * suc n) v)
        again_four t is n u later v same = four v (sym (ap (λ k. take k v) more_four) ∙ same ∙ ap (λ k. take k (a ∷ b ∷ c ∷ d ∷ rest)) more_four) ∙ ap (λ k. run f u q (drop k v)) (sym more_four)
          where
            more_four : 4 * suc n ≡ suc (suc (suc (suc (4 * n))))
            more_four = omega arith

            four : (v : List ℕ) → take (suc (suc (suc (suc (4 * n))))) v ≡ a ∷ (b ∷ (c ∷ (d ∷ take (4 * n) rest))) → run f s p v ≡ run f u q (drop (suc (suc (suc (suc (4 * n))))) v)
            four [] z = absurd (omega (arith, ap length z))
            four (x ∷ []) z = absurd (omega (arith, ap length z))
            four (x ∷ y ∷ []) z = absurd (omega (arith, ap length z))
            four (x ∷ y ∷ g ∷ []) z = absurd (omega (arith, ap length z))
            four (x ∷ y ∷ g ∷ h ∷ v) z =
                let word : word_of x y g h ≡ next = cc in
                let tail : take (4 * n) v ≡ take (4 * n) rest = cc in
                run_four f s p x y g h v
                ∙ ap (λ w. after f s p w v (f.step s w)) word
                ∙ ap (after f s p next v) is
                ∙ later v tail

        reached_four : (st : Step S) → f.step s next ≡ st → Reached s p (a ∷ b ∷ c ∷ d ∷ rest) r q
        reached_four (wrong k) is =
            let same = same_stop (on (wrong k) is) in
            reached_here s p (a ∷ b ∷ c ∷ d ∷ rest) r q good same.1 (refuses (omega arith) (is ∙ ap wrong same.0))
        reached_four ends is =
            let here = ending_place (f.finish s) p next (none rest) r q (on ends is) in
            reached_here s p (a ∷ b ∷ c ∷ d ∷ rest) r q good here (closes_at (omega arith) is (ap (λ n. ending (f.finish s) n next (none rest)) (sym here) ∙ on ends is))
        reached_four (more t) is =
            let kept = steps s t next good is in
            let to = below t kept.0 (on (more t) is) in
            let four : 4 * suc to.many ≡ suc (suc (suc (suc (4 * to.many)))) = omega arith in
            record {
              draft = to.draft;
              many = suc to.many;
              at = omega (arith, to.at);
              there = omega (arith, to.there);
              good = to.good;
              words = to.words ∙ ap (λ l. l ++ take to.many (words_of rest)) kept.1 ∙ append_assoc (written s) (next ∷ []) (take to.many (words_of rest));
              halts = subst (λ n. Halts to.draft q (drop n (a ∷ b ∷ c ∷ d ∷ rest)) r) (sym four) to.halts;
              again = again_four t is to.many to.draft to.again;
            }

    reached : (s : S) (p : ℕ) (bytes : List ℕ) (r : Refusal) (q : ℕ) → Good s → run f s p bytes ≡ stop r q → Reached s p bytes r q
    unfolding run
    reached s p [] r q good e = reached_here s p [] r q good (same_stop e).1 (short (omega arith) (sym (same_stop e).0))
    reached s p (a ∷ []) r q good e = reached_here s p (a ∷ []) r q good (same_stop e).1 (short (omega arith) (sym (same_stop e).0))
    reached s p (a ∷ b ∷ []) r q good e = reached_here s p (a ∷ b ∷ []) r q good (same_stop e).1 (short (omega arith) (sym (same_stop e).0))
    reached s p (a ∷ b ∷ c ∷ []) r q good e = reached_here s p (a ∷ b ∷ c ∷ []) r q good (same_stop e).1 (short (omega arith) (sym (same_stop e).0))
    reached s p (a ∷ b ∷ c ∷ d ∷ rest) r q good e = reached_four s p a b c d rest r q good e (λ t g h. reached t (p + 1) rest r q g h) (f.step s (word_of a b c d)) refl

    -- the same stop, where the next word is the same, and, at an end word, the same follows
    halts_alike : (s : S) (p : ℕ) (a b : List ℕ) (r : Refusal) → Halts s p a r → take 4 a ≡ take 4 b → (4 ≤ length a → f.step s (first_word a) ≡ ends → none (drop 4 a) ≡ none (drop 4 b)) → run f s p b ≡ stop r p
    halts_alike s p a b r (short few cut) same more_same = run_short f s p b (omega (arith, ap length same, length-take 4 a, length-take 4 b)) ∙ ap (λ t. stop t p) (sym cut)
    halts_alike s p a b r (refuses four bad) same more_same =
        let long = four_taken a b same four in
        let word : first_word b ≡ first_word a = sym (first_taken b long) ∙ ap first_word (sym same) ∙ first_taken a four in
        run_word f s p b long ∙ ap (after f s p (first_word b) (drop 4 b)) (ap (f.step s) word ∙ bad)
    halts_alike s p a b r (closes_at four end why) same more_same =
        let long = four_taken a b same four in
        let word : first_word b ≡ first_word a = sym (first_taken b long) ∙ ap first_word (sym same) ∙ first_taken a four in
        run_word f s p b long
        ∙ ap (after f s p (first_word b) (drop 4 b)) (ap (f.step s) word ∙ end)
        ∙ ap (λ w. ending (f.finish s) p w (none (drop 4 b))) word
        ∙ ap (ending (f.finish s) p (first_word a)) (sym (more_same four end))
        ∙ why

    module _ (starts : Good f.start) (nothing : written f.start ≡ []) where
      -- the draft where reading stops, and how
      record Stopped (bytes : List ℕ) (r : Refusal) (q : ℕ) : Type 0 where
        draft : S
        is : DraftOf Good written bytes q draft
        halts : Halts draft q (drop (4 * q) bytes) r
        again : (b : List ℕ) → take (4 * q) b ≡ take (4 * q) bytes → reading f b ≡ run f draft q (drop (4 * q) b)

      stopped : (bytes : List ℕ) (r : Refusal) (q : ℕ) → reading f bytes ≡ stop r q → Stopped bytes r q
      stopped bytes r q e =
          let to = reached f.start 0 bytes r q starts e in
          let same : to.many ≡ q = omega (arith, to.at) in
          record {
            draft = to.draft;
            is = record { good = to.good; there = omega (arith, to.there); words = to.words ∙ ap (λ l. l ++ take to.many (words_of bytes)) nothing ∙ ap (λ n. take n (words_of bytes)) same };
            halts = subst (λ n. Halts to.draft q (drop (4 * n) bytes) r) same to.halts;
            again = subst (λ n. (b : List ℕ) → take (4 * n) b ≡ take (4 * n) bytes → run f f.start 0 b ≡ run f to.draft q (drop (4 * n) b)) same to.again;
          }

      alike_where : (a b : List ℕ) (r : Refusal) (p : ℕ) (at : Stopped a r p) → take (4 * (p + 1)) a ≡ take (4 * (p + 1)) b
          → (4 ≤ length (drop (4 * p) a) → f.step at.draft (first_word (drop (4 * p) a)) ≡ ends → none (drop 4 (drop (4 * p) a)) ≡ none (drop 4 (drop (4 * p) b))) → reading f b ≡ stop r p
      alike_where a b r p at same more_same =
          let four : 4 * (p + 1) ≡ 4 * p + 4 = omega arith in
          let agree : take (4 * p + 4) a ≡ take (4 * p + 4) b = ap (λ n. take n a) (sym four) ∙ same ∙ ap (λ n. take n b) four in
          at.again b (sym (agree_first (4 * p) 4 a b agree)) ∙ halts_alike at.draft p (drop (4 * p) a) (drop (4 * p) b) r at.halts (agree_then (4 * p) 4 a b agree) more_same

      pub alike_at_end : AlikeAtEnd f
      alike_at_end a b r p e both same = alike_where a b r p (stopped a r p e) same (λ four end. nil_same _ _ (rest_of a ∙ both ∙ sym (rest_of b)))
        where
          rest_of : (l : List ℕ) → ltb 0 (length (drop 4 (drop (4 * p) l))) ≡ goes_on l p
          rest_of l = elim (cases_Bool (goes_on l p)) [
            | inl on ↦ lt-ltb 0 (length (drop 4 (drop (4 * p) l))) (omega (arith, ltb-true (4 * (p + 1)) (length l) on, length-drop (4 * p) l, length-drop 4 (drop (4 * p) l))) ∙ sym on
            | inr off ↦ le-ltb 0 (length (drop 4 (drop (4 * p) l))) (omega (arith, ltb-false (4 * (p + 1)) (length l) off, length-drop (4 * p) l, length-drop 4 (drop (4 * p) l))) ∙ sym off
          ]

      module _ (leads : (t : S) → Good t → Passes f f.start (written t) t) where
        -- the words lead to one draft only
        same_end : (ws : List ℕ) (s t u : S) → Passes f s ws t → Passes f s ws u → t ≡ u
        same_end [] s t u e h = sym e ∙ h
        same_end (w ∷ ws) s t u (x, (e, (low, way))) (y, (h, (small, path))) =
            same_end ws y t u (subst (λ z. Passes f z ws t) (same_more (sym e ∙ h)) way) path

        last_of : (ws : List ℕ) (w : ℕ) (s t : S) → Passes f s (ws ++ (w ∷ [])) t → (u : S) × (Passes f s ws u × (f.step u w ≡ more t))
        last_of [] w s t (x, (e, (low, is))) = (s, (refl, e ∙ ap more is))
        last_of (v ∷ ws) w s t (x, (e, (low, way))) =
            let later = last_of ws w x t way in
            (later.0, ((x, (e, (low, later.1.0))), later.1.1))

        one_draft : OneDraft Good written
        one_draft bytes p s t is also =
            same_end (written s) f.start s t (leads s is.good) (subst (λ ws. Passes f f.start ws t) (also.words ∙ sym is.words) (leads t also.good))

        -- a draft of one word more comes by that word
        comes : (bytes : List ℕ) (p : ℕ) (s t : S) → DraftOf Good written bytes p s → DraftOf Good written bytes (p + 1) t → f.step s (word_at bytes p) ≡ more t
        comes bytes p s t is further =
            let next_place : p + 1 ≡ suc p = omega arith in
            let more_words : written t ≡ written s ++ (word_at bytes p ∷ []) =
            further.words ∙ ap (λ n. take n (words_of bytes)) next_place ∙ take-suc (words_of bytes) p 0 (omega (arith, further.there)) ∙ ap (λ l. l ++ (word_at bytes p ∷ [])) (sym is.words) in
            let way = last_of (written s) (word_at bytes p) f.start t (subst (λ ws. Passes f f.start ws t) more_words (leads t further.good)) in
            ap (λ u. f.step u (word_at bytes p)) (same_end (written s) f.start s way.0 (leads s is.good) way.1.0) ∙ way.1.1

        module _ (may_end : S → Bool) (passes : S → ℕ → Refusal → Bool) (closes : S → Refusal → Bool)
            (tested : (s : S) (w : ℕ) → Good s → refused (f.step s w) ≡ first_not_passed word_tests (passes s w))
            (ends_where : (s : S) (w : ℕ) → Good s → f.step s w ≡ ends → (may_end s ≡ true) × (kind w ≡ 15))
            (end_reads : (s : S) (w : ℕ) → Good s → may_end s ≡ true → kind w ≡ 15 → f.step s w ≡ ends)
            (judged : (s : S) → Good s → may_end s ≡ true → why_not (f.finish s) ≡ first_not_passed book_tests (closes s))
          where
            -- reading stops at a word that is refused, at an end word, or where no word is

            record AtWord (bytes : List ℕ) (r : Refusal) (p : ℕ) (s : S) : Type 0 where
              there : 4 * (p + 1) ≤ length bytes
              refuses_it : f.step s (word_at bytes p) ≡ wrong r
              first : first_not_passed word_tests (passes s (word_at bytes p)) ≡ Some r
              own : of_word r ≡ true

            record AtEnd (bytes : List ℕ) (r : Refusal) (p : ℕ) (s : S) : Type 0 where
              there : 4 * (p + 1) ≤ length bytes
              may : may_end s ≡ true
              is_end : kind (word_at bytes p) ≡ 15
              by : ((r ≡ WrongEnd) × ((word_at bytes p ≡ end_word p → ⊥) ⊎ (4 * (p + 1) < length bytes))) ⊎ ((word_at bytes p ≡ end_word p) × (length bytes ≡ 4 * (p + 1)) × (first_not_passed book_tests (closes s) ≡ Some r) × (of_book r ≡ true))

            data Cause (bytes : List ℕ) (r : Refusal) (p : ℕ) (s : S) : Type 0 where
              no_word : length bytes < 4 * (p + 1) → r ≡ CutOff → Cause bytes r p s
              a_word : AtWord bytes r p s → Cause bytes r p s
              an_end : AtEnd bytes r p s → Cause bytes r p s

            left_of : (bytes : List ℕ) (p : ℕ) → length (drop (4 * p) bytes) ≡ length bytes - 4 * p
            left_of bytes p = length-drop (4 * p) bytes

            end_by : (bytes : List ℕ) (r : Refusal) (p : ℕ) (s : S) → Good s → may_end s ≡ true → kind (word_at bytes p) ≡ 15 → 4 * (p + 1) ≤ length bytes → ending (f.finish s) p (word_at bytes p) (none (drop 4 (drop (4 * p) bytes))) ≡ stop r p
                → ((r ≡ WrongEnd) × ((word_at bytes p ≡ end_word p → ⊥) ⊎ (4 * (p + 1) < length bytes))) ⊎ ((word_at bytes p ≡ end_word p) × (length bytes ≡ 4 * (p + 1)) × (first_not_passed book_tests (closes s) ≡ Some r) × (of_book r ≡ true))
            unfolding EndedBy
            end_by bytes r p s good may is here e =
                let after_it = length-drop 4 (drop (4 * p) bytes) in
                elim (ended_by (f.finish s) p (word_at bytes p) (none (drop 4 (drop (4 * p) bytes))) r p e) [
                  | inl wrong_end ↦ inl (
                    wrong_end.0,
                    elim (wrong_end.1) [
                      | inl other ↦ inl (λ own. other (end_own (word_at bytes p) p is own))
                      | inr follows ↦ inr (omega (arith, left_of bytes p, after_it, some_length (drop 4 (drop (4 * p) bytes)) follows))
                    ],
                  )
                  | inr right ↦
                      let first = sym (judged s good may) ∙ ap why_not right.2 in
                      inr (end_is (word_at bytes p) p is right.0, omega (arith, left_of bytes p, after_it, nil_length (drop 4 (drop (4 * p) bytes)) right.1), first, tests_book (closes s) r first)
                ]

            cause_of : (bytes : List ℕ) (r : Refusal) (p : ℕ) (s : S) → DraftOf Good written bytes p s → Halts s p (drop (4 * p) bytes) r → Cause bytes r p s
            cause_of bytes r p s is (short few cut) = no_word (omega (arith, left_of bytes p)) cut
            cause_of bytes r p s is (refuses four bad) =
                let here : 4 * (p + 1) ≤ length bytes = omega (arith, left_of bytes p) in
                let word = (word_there p bytes here).1 in
                let refuses_it = ap (f.step s) word ∙ bad in
                let first = sym (tested s (word_at bytes p) is.good) ∙ ap refused refuses_it in
                a_word (record { there = here; refuses_it = refuses_it; first = first; own = tests_word (passes s (word_at bytes p)) r first })
            cause_of bytes r p s is (closes_at four end why) =
                let here : 4 * (p + 1) ≤ length bytes = omega (arith, left_of bytes p) in
                let word = (word_there p bytes here).1 in
                let at = ends_where s (word_at bytes p) is.good (ap (f.step s) word ∙ end) in
                an_end (record { there = here; may = at.0; is_end = at.1; by = end_by bytes r p s is.good at.0 at.1 here (ap (λ w. ending (f.finish s) p w (none (drop 4 (drop (4 * p) bytes)))) word ∙ why) })

            cause : (bytes : List ℕ) (r : Refusal) (p : ℕ) (s : S) → reading f bytes ≡ stop r p → DraftOf Good written bytes p s → Cause bytes r p s
            cause bytes r p s e is =
                let at = stopped bytes r p e in
                subst (Cause bytes r p) (one_draft bytes p at.draft s at.is is) (cause_of bytes r p at.draft at.is at.halts)

            -- a refusal that one word decides
            word_cause : (bytes : List ℕ) (r : Refusal) (p : ℕ) (s : S) → of_word r ≡ true → Cause bytes r p s → AtWord bytes r p s
            word_cause bytes r p s own (no_word few cut) = absurd (true≢false (sym own ∙ ap of_word cut))
            word_cause bytes r p s own (a_word at) = at
            word_cause bytes r p s own (an_end at) = elim (at.by) [
              | inl wrong_end ↦ absurd (true≢false (sym own ∙ ap of_word wrong_end.0))
              | inr right ↦ absurd (true≢false (sym own ∙ no_word_of r right.3))
            ]

            no_further : NoFurther f Good written may_end
            no_further bytes r p s e own is =
                let at = word_cause bytes r p s own (cause bytes r p s e is) in (
                  λ t further. wrong_is_not_more (sym at.refuses_it ∙ comes bytes p s t is further),
                  λ may end. wrong_is_not_end (sym at.refuses_it ∙ end_reads s (word_at bytes p) is.good may end),
                )

            least : Least f Good written passes
            least bytes r p s e own is =
                let at = word_cause bytes r p s own (cause bytes r p s e is) in
                ((word_there p bytes at.there).0, at.first)

            passes_all : PassesAll Good written passes
            passes_all bytes p s t is further = sym (tested s (word_at bytes p) is.good) ∙ ap refused (comes bytes p s t is further)

            cut_off : CutsOff f
            cut_off bytes p e = from (cause bytes CutOff p (stopped bytes CutOff p e).draft e (stopped bytes CutOff p e).is)
              where
                from : {s : S} → Cause bytes CutOff p s → length bytes < 4 * (p + 1)
                from (no_word few cut) = few
                from (a_word at) = absurd (true≢false (sym at.own))
                from (an_end at) = elim (at.by) [ inl wrong_end ↦ absurd (true≢false (sym (ap at_end wrong_end.0))) | inr right ↦ absurd (true≢false (sym right.3)) ]

            ends_wrong : EndsWrong f Good written may_end
            ends_wrong bytes p s e is = from (cause bytes WrongEnd p s e is)
              where
                from : Cause bytes WrongEnd p s → (may_end s ≡ true) × (kind (word_at bytes p) ≡ 15) × ((word_at bytes p ≡ end_word p → ⊥) ⊎ (4 * (p + 1) < length bytes))
                from (no_word few cut) = absurd (true≢false (ap at_end cut))
                from (a_word at) = absurd (true≢false (sym at.own))
                from (an_end at) = (at.may, at.is_end, elim (at.by) [ inl wrong_end ↦ wrong_end.1 | inr right ↦ absurd (true≢false (sym right.3)) ])

            book_refused : BookRefused f Good written may_end closes
            book_refused bytes r p s e own is = from (cause bytes r p s e is)
              where
                from : Cause bytes r p s → (may_end s ≡ true) × (word_at bytes p ≡ end_word p) × (length bytes ≡ 4 * (p + 1)) × (first_not_passed book_tests (closes s) ≡ Some r)
                from (no_word few cut) = absurd (true≢false (sym own ∙ ap of_book cut))
                from (a_word at) = absurd (true≢false (sym at.own ∙ no_word_of r own))
                from (an_end at) = elim (at.by) [ inl wrong_end ↦ absurd (true≢false (sym own ∙ ap of_book wrong_end.0)) | inr right ↦ (at.may, right.0, right.1, right.2) ]

            alike : Alike f
            alike a b r p e own same = alike_where a b r p (stopped a r p e) same (λ four end. no_end (cause a r p (stopped a r p e).draft e (stopped a r p e).is) four end)
              where
                no_end : Cause a r p (stopped a r p e).draft → 4 ≤ length (drop (4 * p) a) → f.step (stopped a r p e).draft (first_word (drop (4 * p) a)) ≡ ends → none (drop 4 (drop (4 * p) a)) ≡ none (drop 4 (drop (4 * p) b))
                no_end (no_word few cut) four end = absurd (omega (arith, left_of a p))
                no_end (a_word at) four end = absurd (wrong_is_not_end (sym at.refuses_it ∙ ap (f.step (stopped a r p e).draft) (word_there p a at.there).1 ∙ end))
                no_end (an_end at) four end = elim (at.by) [
                  | inl wrong_end ↦ absurd (true≢false (sym (ap at_end wrong_end.0) ∙ own))
                  | inr right ↦ absurd (true≢false (sym (end_of_book r right.3) ∙ own))
                ]

            -- the refusals of such a format are right
            pub refuses_rightly : RefusesRightly f Good written may_end passes closes
            refuses_rightly = record {
              begins = λ bytes r p e. ((stopped bytes r p e).draft, (stopped bytes r p e).is);
              one_draft = one_draft;
              no_further = no_further;
              least = least;
              passes_all = passes_all;
              cut_off = cut_off;
              ends_wrong = ends_wrong;
              book_refused = book_refused;
              alike = alike;
              alike_at_end = alike_at_end;
            }
