-- Two policies that choose alike at each history of up to the horizon's length are admissible alike and earn alike.
-- For others: `best_alike`.
use Rattle.std.proofs.Common.{◌≡◌, ℕ, zero, suc, ◌+◌, ◌≤◌, List, [], ◌∷◌, ◌++◌, length, ℤ, ◌+ℤ◌, refl, ap, ◌∙◌, subst, arith}
use Rattle.std.specs.List.{Contains}
use Rattle.std.proofs.lemmas.List.{length_push}
use Rattle.model.specs.Histories.{final, Shown, History, begun, onward, targets_of}
use Rattle.model.specs.Models.{Model}
use Rattle.weighmodel.specs.Weighings.{Weigh, held}
use Rattle.worth.specs.Worths.{joined, own_part}
use Rattle.worth.specs.Policies.{Policy, LedTo, led_start, led_on, Admissible, value_after, earned_after, Best}
use Rattle.worth.proofs.Joining.{joined_same}

module _ (w : Weigh) (discount : ℕ → ℕ) (g : Model) (sh : Shown) (horizon : ℕ) (π σ : Policy) (alike : (h : List ℕ) → History g sh.offered h → length h ≤ horizon → σ h ≡ π h) (admissible : Admissible g sh horizon π) where
  -- what the one leads to, the other leads to
  led_alike : (h : List ℕ) → LedTo g σ h → length h ≤ horizon + 1 → LedTo g π h × History g sh.offered h
  led_alike h led_start short = (led_start, begun)
  led_alike h (led_on {h = before} t led has) short =
      let few : length before ≤ horizon = omega (arith, length_push before t) in
      let there = led_alike before led (omega arith) in
      let same = alike before there.1 few in
      let has' = subst (λ a. Contains (targets_of (g.outcomes (final before) a)) t) same has in
      (led_on t there.0 has', onward (π before) t there.1 (admissible before there.0 few) has')

  earned_alike : (k : ℕ) (h : List ℕ) → LedTo g π h → History g sh.offered h → length h + k ≡ horizon + 1 → earned_after w discount g sh.reward horizon σ k h ≡ earned_after w discount g sh.reward horizon π k h
  unfolding earned_after
  earned_alike zero h led hist left = refl
  earned_alike (suc k) h led hist left =
      let few : length h ≤ horizon = omega arith in
      let later : joined w (value_after h (earned_after w discount g sh.reward horizon σ k)) (g.outcomes (final h) (π h)) ≡ joined w (value_after h (earned_after w discount g sh.reward horizon π k)) (g.outcomes (final h) (π h)) =
      joined_same w (value_after h (earned_after w discount g sh.reward horizon σ k)) (value_after h (earned_after w discount g sh.reward horizon π k)) w.first w.first (g.outcomes (final h) (π h)) refl
      (λ t has. earned_alike k (h ++ (t ∷ [])) (led_on t led has) (onward (π h) t hist (admissible h led few) has) (omega (arith, length_push h t))) in
      ap (λ a. held (own_part w discount horizon (suc k) (sh.reward h) +ℤ joined w (value_after h (earned_after w discount g sh.reward horizon σ k)) (g.outcomes (final h) a))) (alike h hist few)
      ∙ ap (λ v. held (own_part w discount horizon (suc k) (sh.reward h) +ℤ v)) later

-- so where the one is best, the other is
pub best_alike : (w : Weigh) (discount : ℕ → ℕ) (g : Model) (sh : Shown) (horizon : ℕ) (π σ : Policy) (v : ℤ) → ((h : List ℕ) → History g sh.offered h → length h ≤ horizon → σ h ≡ π h) → Best w discount g sh horizon π v → Best w discount g sh horizon σ v
best_alike w discount g sh horizon π σ v alike best = record {
  admissible = λ h led few.
      let there = led_alike w discount g sh horizon π σ alike best.admissible h led (omega arith) in
      ap (sh.offered h) (alike h there.1 few) ∙ best.admissible h there.0 few;
  exactly = earned_alike w discount g sh horizon π σ alike best.admissible horizon (g.start ∷ []) led_start begun (omega arith) ∙ best.exactly;
  nobody = best.nobody;
}
