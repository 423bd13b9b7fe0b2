-- Tables that are filled place by place. For others: `filled_none` and `filled_more`.
use Rattle.std.proofs.Common.{◌≡◌, ℕ, ◌+◌, ◌<◌, List, length, drop, get_or, set, refl, sym, ap, ◌∙◌, subst, ⊎_elim, arith}
use Rattle.std.proofs.lemmas.Bool.{cases_lt}
use Rattle.std.proofs.lemmas.List.{get_or-set_same, get_or-set_other, length-set, drop-drop, drop-set-lt}
use Rattle.planning.specs.Plans.{Filled}

module _ {X : Type 0} (f : ℕ → X) where
  pub filled_none : (xs : List X) → Filled f 0 xs xs
  filled_none xs = record { places = λ p d l. absurd (omega arith); size = refl; later = refl }

  -- one place more
  pub filled_more : (n : ℕ) (xs ys : List X) (y : X) → Filled f n xs ys → n < length ys → y ≡ f n → Filled f (n + 1) xs (set ys n y)
  filled_more n xs ys y filled inside is = record {
    places = λ p d l.
        ⊎_elim
        (λ (below : p < n). get_or-set_other ys n p y d (λ e. absurd (omega arith)) ∙ filled.places p d below)
        (λ above. let e : n ≡ p = omega arith in subst (λ q. get_or (set ys n y) q d ≡ f q) e (get_or-set_same ys n y d inside ∙ is))
        (cases_lt p n);
    size = length-set ys n y ∙ filled.size;
    later = drop-set-lt (n + 1) ys n y (omega arith) ∙ sym (drop-drop 1 n ys) ∙ ap (drop 1) filled.later ∙ drop-drop 1 n xs;
  }
