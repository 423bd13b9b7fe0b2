-- One book more is judged; and a fourth is not laid.
use Rattle.std.proofs.Common.{◌≡◌, ◌+◌, ◌<◌, true, false, not, cond, List, [], ◌∷◌, ◌++◌, length, get_or, take, Some, None, Option, sym, refl, ap, ◌∙◌, subst, arith, append_assoc}
use Rattle.std.specs.Option.{option_map, option_to_list, is_some}
use Rattle.std.proofs.lemmas.Bool.{cond-true, cond-false, both_ways}
use Rattle.std.proofs.lemmas.List.{append-nil, take_more, length_push, take_all}
use Rattle.model.specs.Models.{Model, Lawful, sizes_of}
use Rattle.refusal.specs.declared.Refusal.{Refusal}
use Rattle.wishbook.specs.declared.book.WishBook.{WishBook}
use Rattle.wishbook.specs.Contents.{contents}
use Rattle.layermodel.proofs.Lawfulness.{room}
use Rattle.layermodel.specs.Layered.{refusal, fits, layered, over}
use Rattle.layermodel.proofs.Lawfulness.{fit_is}
use Rattle.pilemodel.specs.Piles.{Floor, wishes, floor_over, piled}
use Rattle.pilemodel.proofs.Pushing.{piled_push}
use Rattle.pile.specs.Skipping.{laid_books, present, JudgedSoFar, Judges}
use Rattle.pile.specs.Stacks.{floor_refusal, why_not, books_as_floors}
use Rattle.pile.proofs.Stacking.{over_laid}

why_not-push : (m : Model) (fs : List Floor) (f : Floor) → why_not m (fs ++ (f ∷ [])) ≡ why_not m fs ++ (floor_refusal (piled m fs) f ∷ [])
why_not-push m [] f = refl
why_not-push m (x ∷ fs) f = ap (λ rs. floor_refusal m x ∷ rs) (why_not-push (floor_over m x) fs f)

books_as_floors-push : (ws : List WishBook) (w : WishBook) → books_as_floors (ws ++ (w ∷ [])) ≡ books_as_floors ws ++ (wishes (contents w) ∷ [])
books_as_floors-push [] w = refl
books_as_floors-push (x ∷ ws) w = ap (λ fs. wishes (contents x) ∷ fs) (books_as_floors-push ws w)

laid_books-push : (m : Model) (ws : List WishBook) (w : WishBook) → laid_books m (ws ++ (w ∷ [])) ≡ laid_books m ws ++ cond (fits (piled m (books_as_floors ws)) (contents w)) (w ∷ []) []
laid_books-push m [] w = append-nil (cond (fits m (contents w)) (w ∷ []) [])
laid_books-push m (x ∷ ws) w =
    let here = cond (fits m (contents x)) (x ∷ []) [] in
    let n = over m (Some (contents x)) in
    ap (λ l. here ++ l) (laid_books-push n ws w) ∙ sym (append_assoc here (laid_books n ws) (cond (fits (piled n (books_as_floors ws)) (contents w)) (w ∷ []) []))

pub no_refusal : (o : Option Refusal) → is_some o ≡ false → o ≡ None
no_refusal None e = refl
no_refusal (Some r) e = absurd (both_ways true e refl)

-- nothing is judged yet
pub none_judged : (base : Model) (ws : List WishBook) → JudgedSoFar base ws [] base []
none_judged base ws = record { few = omega arith; model = refl; noted = refl; kept = refl }

-- one book more, whether it is laid or not
judged_more : (base m : Model) (ws laid : List WishBook) (rs : List (Option Refusal)) (w : WishBook) → JudgedSoFar base ws rs m laid → length rs < length ws → w ≡ get_or ws (length rs) w
    → JudgedSoFar base ws (rs ++ (refusal (sizes_of m) (contents w) ∷ [])) (over m (Some (contents w))) (laid ++ cond (fits m (contents w)) (w ∷ []) [])
judged_more base m ws laid rs w j l is =
    let size : length (rs ++ (refusal (sizes_of m) (contents w) ∷ [])) ≡ length rs + 1 = length_push rs (refusal (sizes_of m) (contents w)) in
    let firsts = take (length rs) ws in
    let more : take (length (rs ++ (refusal (sizes_of m) (contents w) ∷ []))) ws ≡ firsts ++ (w ∷ []) =
    ap (λ k. take k ws) size ∙ take_more ws (length rs) w l ∙ ap (λ x. firsts ++ (x ∷ [])) (sym is) in
    let floors : books_as_floors (take (length (rs ++ (refusal (sizes_of m) (contents w) ∷ []))) ws) ≡ books_as_floors firsts ++ (wishes (contents w) ∷ []) = ap books_as_floors more ∙ books_as_floors-push firsts w in
    record {
      few = omega (arith, size, l);
      model = ap (λ n. over n (Some (contents w))) j.model ∙ sym (piled_push base (books_as_floors firsts) (wishes (contents w))) ∙ sym (ap (piled base) floors);
      noted = (λ i. j.noted i ++ (refusal (sizes_of (j.model i)) (contents w) ∷ [])) ∙ sym (why_not-push base (books_as_floors firsts) (wishes (contents w))) ∙ sym (ap (why_not base) floors);
      kept = (λ i. j.kept i ++ cond (fits (j.model i) (contents w)) (w ∷ []) []) ∙ sym (laid_books-push base firsts w) ∙ sym (ap (laid_books base) more);
    }

-- a book that is refused leaves the model and what is laid
pub judged_refused : (base m : Model) (ws laid : List WishBook) (rs : List (Option Refusal)) (w : WishBook) (o : Option Refusal) → JudgedSoFar base ws rs m laid → length rs < length ws → w ≡ get_or ws (length rs) w → o ≡ refusal (sizes_of m) (contents w) → is_some o ≡ true → JudgedSoFar base ws (rs ++ (o ∷ [])) m laid
judged_refused base m ws laid rs w o j l is said refused =
    let unfit : fits m (contents w) ≡ false = fit_is m (contents w) o said ∙ ap not refused in
    let whole : (laid ++ cond (fits m (contents w)) (w ∷ []) []) ≡ laid = ap (λ l. laid ++ l) (cond-false (fits m (contents w)) (w ∷ []) [] unfit) ∙ append-nil laid in
    subst (λ r. JudgedSoFar base ws (rs ++ (r ∷ [])) m laid) (sym said)
    (subst (λ n. JudgedSoFar base ws (rs ++ (refusal (sizes_of m) (contents w) ∷ [])) n laid) (cond-false (fits m (contents w)) (layered m (contents w)) m unfit)
    (subst (JudgedSoFar base ws (rs ++ (refusal (sizes_of m) (contents w) ∷ [])) (over m (Some (contents w)))) whole (judged_more base m ws laid rs w j l is)))

-- and one that is not
pub judged_laid : (base m : Model) (ws laid : List WishBook) (rs : List (Option Refusal)) (w : WishBook) (o : Option Refusal) → JudgedSoFar base ws rs m laid → length rs < length ws → w ≡ get_or ws (length rs) w → o ≡ refusal (sizes_of m) (contents w) → is_some o ≡ false → JudgedSoFar base ws (rs ++ (o ∷ [])) (over m (Some (contents w))) (laid ++ (w ∷ []))
judged_laid base m ws laid rs w o j l is said fine =
    let fit : fits m (contents w) ≡ true = fit_is m (contents w) o said ∙ ap not fine in
    subst (λ r. JudgedSoFar base ws (rs ++ (r ∷ [])) (over m (Some (contents w))) (laid ++ (w ∷ []))) (sym said)
    (subst (λ l. JudgedSoFar base ws (rs ++ (refusal (sizes_of m) (contents w) ∷ [])) (over m (Some (contents w))) (laid ++ l)) (cond-true (fits m (contents w)) (w ∷ []) [] fit) (judged_more base m ws laid rs w j l is))

pub present_is : (a b c : Option WishBook) → present (a ∷ (b ∷ (c ∷ []))) ≡ ((([] ++ option_to_list a) ++ option_to_list b) ++ option_to_list c) ++ []
present_is None None None = refl
present_is None None (Some z) = refl
present_is None (Some y) None = refl
present_is None (Some y) (Some z) = refl
present_is (Some x) None None = refl
present_is (Some x) None (Some z) = refl
present_is (Some x) (Some y) None = refl
present_is (Some x) (Some y) (Some z) = refl

-- a model with a book on it, if there is one
abbrev pub on : Model → Option WishBook → Model
on m o = over m (option_map contents o)

-- what four turns come to
module _ (base : Model) (ws : List WishBook) where
  pub record FourTurns (r1 r2 r3 r4 : List (Option Refusal)) (a b c d : Option WishBook) : Type 0 where
    pub first : Judges base ws [] r1 a
    pub second : Judges (on base a) ws r1 r2 b
    pub third : Judges (on (on base a) b) ws r2 r3 c
    pub fourth : Judges (on (on (on base a) b) c) ws r3 r4 d

  no_fourth : Lawful base → (r1 r2 r3 r4 : List (Option Refusal)) (a b c d : Option WishBook) → FourTurns r1 r2 r3 r4 a b c d → d ≡ None
  no_fourth law r1 r2 r3 r4 a b c None t = refl
  no_fourth law r1 r2 r3 r4 a b None (Some w) t = absurd (omega (arith, t.fourth.some refl, t.third.none refl))
  no_fourth law r1 r2 r3 r4 a None (Some z) (Some w) t = absurd (omega (arith, t.third.some refl, t.second.none refl))
  no_fourth law r1 r2 r3 r4 None (Some y) (Some z) (Some w) t = absurd (omega (arith, t.second.some refl, t.first.none refl))
  no_fourth law r1 r2 r3 r4 (Some x) (Some y) (Some z) (Some w) t =
      let m = on (on (on base (Some x)) (Some y)) (Some z) in
      let fit = (room m (contents w) (fit_is m (contents w) None (sym t.fourth.fits))).span in
      absurd (omega (
        arith,
        law.states.within base.start law.states.starts,
        over_laid base (contents x) t.first.fits,
        over_laid (on base (Some x)) (contents y) t.second.fits,
        over_laid (on (on base (Some x)) (Some y)) (contents z) t.third.fits,
        fit,
      ))

  pub all_judged : Lawful base → (r1 r2 r3 r4 : List (Option Refusal)) (a b c d : Option WishBook) → FourTurns r1 r2 r3 r4 a b c d
      → (on (on (on base a) b) c ≡ piled base (books_as_floors ws)) × (r4 ≡ why_not base (books_as_floors ws)) × (present (a ∷ (b ∷ (c ∷ []))) ≡ laid_books base ws)
  all_judged law r1 r2 r3 r4 a b c d t =
      let none = no_fourth law r1 r2 r3 r4 a b c d t in
      let fourth = subst (Judges (on (on (on base a) b) c) ws r3 r4) none t.fourth in
      let j = fourth.judged base _ (t.third.judged base _ (t.second.judged base _ (t.first.judged base [] (none_judged base ws)))) in
      let whole : take (length r4) ws ≡ ws = take_all (length r4) ws (fourth.none refl) in (
        j.model ∙ ap (λ l. piled base (books_as_floors l)) whole,
        j.noted ∙ ap (λ l. why_not base (books_as_floors l)) whole,
        present_is a b c ∙ j.kept ∙ ap (laid_books base) whole,
      )
