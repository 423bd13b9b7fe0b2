-- The plan on a model that unfolds a ground model earns its worth, and no policy that chooses from the whole history earns more.
-- For others: `plan_best`.
use Rattle.std.proofs.Common.{◌≡◌, ℕ, zero, suc, ◌+◌, ◌-◌, ◌<◌, true, List, [], ◌∷◌, ◌++◌, length, ℤ, ◌+ℤ◌, ◌≤ℤ◌, Some, sym, refl, ap, ◌∙◌, subst, arith}
use lib.Signed.{≤ℤ_refl}
use Rattle.std.proofs.lemmas.List.{length_push}
use Rattle.model.specs.Histories.{final, Shown, History, begun, onward, Unfolds}
use Rattle.model.specs.Models.{Model}
use Rattle.weighmodel.proofs.Lawful.{held_raises, add_raises}
use Rattle.weighmodel.proofs.Holding.{le_through}
use Rattle.weighmodel.specs.Weighings.{Weigh, LawfulWeigh, held}
use Rattle.worth.specs.declared.Pick.{Pick}
use Rattle.worth.specs.Worths.{joined, own_part, summed, pick_at, worth_by, worth_of, action_of}
use Rattle.worth.specs.Policies.{Policy, LedTo, led_start, led_on, Admissible, value_after, earned_after, Best, planned}
use Rattle.worth.proofs.Picking.{pick_some, pick_told}
use Rattle.worth.proofs.Joining.{joined_raises, joined_same, joined_along}

le_same : (a b c : ℤ) → a ≤ℤ b → b ≡ c → a ≤ℤ c
le_same a b c h e = subst (λ x. a ≤ℤ x) e h

module _ (w : Weigh) (discount : ℕ → ℕ) (g : Model) (sh : Shown) (m : Model) (code : List ℕ → ℕ) (u : Unfolds g sh m code) (inside : (s a : ℕ) → m.offered s a ≡ true → a < m.actions) (waiting : (h : List ℕ) → History g sh.offered h → m.offered (code h) 0 ≡ true) (horizon : ℕ) where
  -- the worth of a state with k slots left, and of the longer histories
  abbrev worths : ℕ → ℕ → ℤ
  worths k s = worth_of w discount m horizon k s

  -- that of the state where a history stands
  abbrev stood : ℕ → List ℕ → ℤ
  stood k h = worths k (code h)

  abbrev plan : Policy
  plan = planned w discount m code horizon

  -- at each history there is a best action
  picked : (k : ℕ) (h : List ℕ) → History g sh.offered h → (p : Pick) × (pick_at w m (worths k) (code h) ≡ Some p)
  picked k h hist = pick_some (m.offered (code h)) (λ a. joined w (worths k) (m.outcomes (code h) a)) m.actions 0 (inside (code h) 0 (waiting h hist)) (waiting h hist)

  plan_offered : (h : List ℕ) → History g sh.offered h → sh.offered h (plan h) ≡ true
  plan_offered h hist =
      let best = picked (horizon - length h) h hist in
      let told = pick_told (m.offered (code h)) (λ a. joined w (worths (horizon - length h)) (m.outcomes (code h) a)) m.actions best.0 best.1 in
      let taken : plan h ≡ best.0.action = ap action_of best.1 in
      ap (sh.offered h) taken ∙ sym (u.offers h hist best.0.action) ∙ told.offered

  -- the plan leads along histories of the ground model
  led_history : (h : List ℕ) → LedTo g plan h → History g sh.offered h
  led_history h led_start = begun
  led_history h (led_on {h = before} t led has) =
      let hist = led_history before led in
      onward (plan before) t hist (plan_offered before hist) has

  -- the joined values of an action are those of the longer histories
  action_value : (k : ℕ) (h : List ℕ) → History g sh.offered h → (a : ℕ) → sh.offered h a ≡ true → joined w (worths k) (m.outcomes (code h) a) ≡ joined w (value_after h (stood k)) (g.outcomes (final h) a)
  action_value k h hist a off = ap (joined w (worths k)) (u.moves h hist a off) ∙ joined_along w (worths k) code h w.first (g.outcomes (final h) a)

  plan_earns : (k : ℕ) (h : List ℕ) → History g sh.offered h → length h + k ≡ horizon + 1 → earned_after w discount g sh.reward horizon plan k h ≡ worths k (code h)
  unfolding earned_after worth_by
  plan_earns zero h hist left = ap (own_part w discount horizon 0) (sym (u.rewards h hist))
  plan_earns (suc k) h hist left =
      let best = picked k h hist in
      let told = pick_told (m.offered (code h)) (λ a. joined w (worths k) (m.outcomes (code h) a)) m.actions best.0 best.1 in
      let slots : horizon - length h ≡ k = omega arith in
      let taken : plan h ≡ best.0.action = ap (λ j. action_of (pick_at w m (worths j) (code h))) slots ∙ ap action_of best.1 in
      let later : joined w (value_after h (earned_after w discount g sh.reward horizon plan k)) (g.outcomes (final h) (plan h)) ≡ joined w (value_after h (stood k)) (g.outcomes (final h) (plan h)) =
      joined_same w (value_after h (earned_after w discount g sh.reward horizon plan k)) (value_after h (stood k)) w.first w.first (g.outcomes (final h) (plan h)) refl
      (λ t has. plan_earns k (h ++ (t ∷ [])) (onward (plan h) t hist (plan_offered h hist) has) (omega (arith, length_push h t))) in
      let value : joined w (value_after h (stood k)) (g.outcomes (final h) (plan h)) ≡ best.0.value =
      sym (action_value k h hist (plan h) (plan_offered h hist)) ∙ ap (λ a. joined w (worths k) (m.outcomes (code h) a)) taken ∙ sym told.valued in
      (λ i. held (own_part w discount horizon (suc k) (sym (u.rewards h hist) i) +ℤ (later ∙ value) i))
      ∙ ap (summed held (own_part w discount horizon (suc k) (m.reward (code h)))) (sym best.1)

  nobody_earns : LawfulWeigh w → (ρ : Policy) → Admissible g sh horizon ρ → (k : ℕ) (h : List ℕ) → LedTo g ρ h → History g sh.offered h → length h + k ≡ horizon + 1 → earned_after w discount g sh.reward horizon ρ k h ≤ℤ worths k (code h)
  unfolding earned_after worth_by
  nobody_earns law ρ admissible zero h led hist left = le_same _ _ _ (≤ℤ_refl (own_part w discount horizon 0 (sh.reward h))) (ap (own_part w discount horizon 0) (sym (u.rewards h hist)))
  nobody_earns law ρ admissible (suc k) h led hist left =
      let best = picked k h hist in
      let told = pick_told (m.offered (code h)) (λ a. joined w (worths k) (m.outcomes (code h) a)) m.actions best.0 best.1 in
      let offered : sh.offered h (ρ h) ≡ true = admissible h led (omega arith) in
      let here : m.offered (code h) (ρ h) ≡ true = u.offers h hist (ρ h) ∙ offered in
      let later : joined w (value_after h (earned_after w discount g sh.reward horizon ρ k)) (g.outcomes (final h) (ρ h)) ≤ℤ joined w (value_after h (stood k)) (g.outcomes (final h) (ρ h)) =
      joined_raises w law (value_after h (earned_after w discount g sh.reward horizon ρ k)) (value_after h (stood k)) w.first w.first (g.outcomes (final h) (ρ h)) (≤ℤ_refl w.first)
      (λ t has. nobody_earns law ρ admissible k (h ++ (t ∷ [])) (led_on t led has) (onward (ρ h) t hist offered has) (omega (arith, length_push h t))) in
      let most : joined w (worths k) (m.outcomes (code h) (ρ h)) ≤ℤ best.0.value = told.largest (ρ h) (inside (code h) (ρ h) here) here in
      let below : joined w (value_after h (earned_after w discount g sh.reward horizon ρ k)) (g.outcomes (final h) (ρ h)) ≤ℤ best.0.value = le_through _ _ _ (le_same _ _ _ later (sym (action_value k h hist (ρ h) offered))) most in
      let own = own_part w discount horizon (suc k) (sh.reward h) in
      le_same _ _ _ (held_raises _ _ (add_raises own own _ _ (≤ℤ_refl own) below))
      (ap (λ r. held (own_part w discount horizon (suc k) r +ℤ best.0.value)) (sym (u.rewards h hist)) ∙ ap (summed held (own_part w discount horizon (suc k) (m.reward (code h)))) (sym best.1))

-- the plan is admissible, earns the worth of the start, and no admissible policy earns more
pub plan_best : (w : Weigh) → LawfulWeigh w → (discount : ℕ → ℕ) (g : Model) (sh : Shown) (m : Model) (code : List ℕ → ℕ)
    → Unfolds g sh m code
    → ((s a : ℕ) → m.offered s a ≡ true → a < m.actions)
    → ((h : List ℕ) → History g sh.offered h → m.offered (code h) 0 ≡ true)
    → (horizon : ℕ)
    → Best w discount g sh horizon (planned w discount m code horizon) (worth_of w discount m horizon horizon m.start)
plan_best w law discount g sh m code u inside waiting horizon = record {
  admissible = λ h led short. plan_offered w discount g sh m code u inside waiting horizon h (led_history w discount g sh m code u inside waiting horizon h led);
  exactly = plan_earns w discount g sh m code u inside waiting horizon horizon (g.start ∷ []) begun (omega arith) ∙ ap (worth_of w discount m horizon horizon) u.first;
  nobody = λ ρ admissible. le_same _ _ _ (nobody_earns w discount g sh m code u inside waiting horizon law ρ admissible horizon (g.start ∷ []) led_start begun (omega arith)) (ap (worth_of w discount m horizon horizon) u.first);
}
