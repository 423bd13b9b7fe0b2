-- What gathering the landings of an action's effects gives: each target once, in the order of first landing, with the whole
-- weight that lands there.
use Rattle.std.proofs.Common.{◌≡◌, ℕ, suc, ◌+◌, ◌<◌, ◌≤◌, Bool, true, false, cond, eqb, ltb, List, [], ◌∷◌, ◌++◌, map, length, get_or, set, sym, refl, ap, ◌∙◌, subst, inl, inr, zero-add, not, position, Some, None, arith}
use Rattle.std.proofs.lemmas.Bool.{and_parts, and_from, cond_both, cond-true, cond-false, cond_below, eqb-true, eqb-false, eq-eqb, ne_eqb, cases_eq, cases_lt, lt-ltb, le-ltb}
use Rattle.std.proofs.lemmas.Grind.{common_steps}
use Rattle.std.specs.List.{position_or_len}
use Rattle.std.proofs.lemmas.List.Sums.{sum_by-cons}
use Rattle.model.specs.declared.Outcome.{Outcome}
use Rattle.model.specs.Histories.{targets_of}
use Rattle.model.specs.Models.{total as weights}
use Rattle.register.specs.Keys.{Kept, place_of, enter, enter_all}
use Rattle.register.proofs.Identity.{eqb_identity, enter_all_identical}
use Rattle.words.specs.Tests.{all}
use Rattle.rulelayout.specs.declared.Effect.{Effect}
use Rattle.rulelayout.specs.Rule.{total}
use Rattle.rulemodel.specs.Meaning.{landing, heavier, added, landings_onto, landings, weight_of, landed, Gathered}

-- targets

cons_cond : (c : Bool) (x : ℕ) (ks js : List ℕ) → x ∷ cond c ks js ≡ cond c (x ∷ ks) (x ∷ js)
cons_cond true x ks js = refl
cons_cond false x ks js = refl

ltb_suc : (p n : ℕ) → ltb p n ≡ ltb (suc p) (suc n)
ltb_suc p n =
    elim (cases_lt p n) [
      | inl h ↦ lt-ltb p n h ∙ sym (lt-ltb (suc p) (suc n) (omega arith))
      | inr h ↦ le-ltb p n h ∙ sym (le-ltb (suc p) (suc n) (omega arith))
    ]

targets_step : (b : Bool) (o : Outcome) (os : List Outcome) (t w : ℕ) → targets_of (added os t w) ≡ enter eqb t (targets_of os) → targets_of (cond b (heavier o w ∷ os) (o ∷ added os t w)) ≡ cond (ltb (cond b 0 (suc (place_of eqb t (targets_of os)))) (suc (length (targets_of os)))) (o.target ∷ targets_of os) (o.target ∷ (targets_of os ++ (t ∷ [])))
targets_step true o os t w ih = cond_below 0 (suc (length (targets_of os))) (o.target ∷ targets_of os) (o.target ∷ (targets_of os ++ (t ∷ []))) (omega arith)
targets_step false o os t w ih =
    ap (λ (ks : List ℕ). o.target ∷ ks) ih
    ∙ cons_cond (ltb (place_of eqb t (targets_of os)) (length (targets_of os))) o.target (targets_of os) (targets_of os ++ (t ∷ []))
    ∙ ap (λ (c : Bool). cond c (o.target ∷ targets_of os) (o.target ∷ (targets_of os ++ (t ∷ [])))) (ltb_suc (place_of eqb t (targets_of os)) (length (targets_of os)))

pub targets_added : (os : List Outcome) (t w : ℕ) → targets_of (added os t w) ≡ enter eqb t (targets_of os)
targets_added [] t w = refl
targets_added (o ∷ os) t w = targets_step (eqb t o.target) o os t w (targets_added os t w)

targets_onto : (s : ℕ) (os : List Outcome) (es : List Effect) → targets_of (landings_onto s os es) ≡ enter_all eqb (targets_of os) (map (landing s) es)
targets_onto s os [] = refl
targets_onto s os (e ∷ es) =
    targets_onto s (added os (landing s e) e.weight) es
    ∙ ap (λ (ks : List ℕ). enter_all eqb ks (map (landing s) es)) (targets_added os (landing s e) e.weight)

pub targets_kept : (s : ℕ) (es : List Effect) → Kept (map (landing s) es) (targets_of (landings s es))
targets_kept s es = subst (Kept (map (landing s) es)) (sym (targets_onto s [] es)) (enter_all_identical eqb eqb_identity (map (landing s) es))

-- weights

weight_there : (o : Outcome) (os : List Outcome) (t w u : ℕ) → t ≡ o.target → weight_of u (heavier o w ∷ os) ≡ weight_of u (o ∷ os) + cond (eqb u t) w 0
weight_there o os t w u e =
    elim (cases_eq u o.target) [
      | inl h ↦ omega (
        arith,
        cond-true (eqb u o.target) (o.weight + w) (weight_of u os) (eq-eqb u o.target h),
        cond-true (eqb u o.target) o.weight (weight_of u os) (eq-eqb u o.target h),
        cond-true (eqb u t) w 0 (eq-eqb u t (h ∙ sym e)),
      )
      | inr h ↦ omega (
        arith,
        cond-false (eqb u o.target) (o.weight + w) (weight_of u os) (ne_eqb u o.target h),
        cond-false (eqb u o.target) o.weight (weight_of u os) (ne_eqb u o.target h),
        cond-false (eqb u t) w 0 (ne_eqb u t (λ k. h (k ∙ e))),
      )
    ]

weight_further : (o : Outcome) (os : List Outcome) (t w u : ℕ) → (t ≡ o.target → ⊥) → weight_of u (added os t w) ≡ weight_of u os + cond (eqb u t) w 0 → weight_of u (o ∷ added os t w) ≡ weight_of u (o ∷ os) + cond (eqb u t) w 0
weight_further o os t w u ne ih =
    elim (cases_eq u o.target) [
      | inl h ↦ omega (
        arith,
        cond-true (eqb u o.target) o.weight (weight_of u (added os t w)) (eq-eqb u o.target h),
        cond-true (eqb u o.target) o.weight (weight_of u os) (eq-eqb u o.target h),
        cond-false (eqb u t) w 0 (ne_eqb u t (λ k. ne (sym k ∙ h))),
      )
      | inr h ↦ omega (
        arith,
        cond-false (eqb u o.target) o.weight (weight_of u (added os t w)) (ne_eqb u o.target h),
        cond-false (eqb u o.target) o.weight (weight_of u os) (ne_eqb u o.target h),
      )
    ]

pub weight_added : (os : List Outcome) (t w u : ℕ) → weight_of u (added os t w) ≡ weight_of u os + cond (eqb u t) w 0
weight_added [] t w u = sym (zero-add (cond (eqb u t) w 0))
weight_added (o ∷ os) t w u =
    cond_both (eqb t o.target) (heavier o w ∷ os) (o ∷ added os t w)
    (λ (ws : List Outcome). weight_of u ws ≡ weight_of u (o ∷ os) + cond (eqb u t) w 0)
    (λ e. weight_there o os t w u (eqb-true t o.target e))
    (λ e. weight_further o os t w u (eqb-false t o.target e) (weight_added os t w u))

weight_onto : (s : ℕ) (os : List Outcome) (es : List Effect) (t : ℕ) → weight_of t (landings_onto s os es) ≡ weight_of t os + landed s t es
weight_onto s os [] t = omega arith
weight_onto s os (e ∷ es) t =
    omega (arith, weight_onto s (added os (landing s e) e.weight) es t, weight_added os (landing s e) e.weight t)

pub gathered : (s : ℕ) (es : List Effect) → Gathered s es (landings s es)
gathered s es = record { targets = targets_kept s es; weights = λ t. weight_onto s [] es t ∙ zero-add (landed s t es) }

-- totals and lengths

pub total_added : (os : List Outcome) (t w : ℕ) → weights (added os t w) ≡ weights os + w
total_added [] t w = omega arith
total_added (o ∷ os) t w =
    cond_both (eqb t o.target) (heavier o w ∷ os) (o ∷ added os t w)
    (λ (ws : List Outcome). weights ws ≡ weights (o ∷ os) + w)
    (λ e. omega (arith, sum_by-cons (λ (x : Outcome). x.weight) o os, sum_by-cons (λ (x : Outcome). x.weight) (heavier o w) os))
    (λ e. omega (arith, total_added os t w, sum_by-cons (λ (x : Outcome). x.weight) o os, sum_by-cons (λ (x : Outcome). x.weight) o (added os t w)))

pub total_onto : (s : ℕ) (os : List Outcome) (es : List Effect) → weights (landings_onto s os es) ≡ weights os + total es
total_onto s os [] = omega arith
total_onto s os (e ∷ es) =
    omega (arith, total_onto s (added os (landing s e) e.weight) es, total_added os (landing s e) e.weight, sum_by-cons (λ (x : Effect). x.weight) e es)

pub length-added : (os : List Outcome) (t w : ℕ) → (1 ≤ length (added os t w)) × (length os ≤ length (added os t w)) × (length (added os t w) ≤ length os + 1)
length-added [] t w = (omega arith, omega arith, omega arith)
length-added (o ∷ os) t w =
    cond_both (eqb t o.target) (heavier o w ∷ os) (o ∷ added os t w)
    (λ (ws : List Outcome). (1 ≤ length ws) × (suc (length os) ≤ length ws) × (length ws ≤ suc (length os) + 1))
    (λ e. (omega arith, omega arith, omega arith))
    (λ e. let h = length-added os t w in (omega arith, omega (arith, h.1), omega (arith, h.2)))

pub length-onto : (s : ℕ) (os : List Outcome) (es : List Effect) → (length os ≤ length (landings_onto s os es)) × (length (landings_onto s os es) ≤ length os + length es)
length-onto s os [] = (omega arith, omega arith)
length-onto s os (e ∷ es) =
    let h = length-added os (landing s e) e.weight in
    let k = length-onto s (added os (landing s e) e.weight) es in
    (omega (arith, h.1, k.0), omega (arith, h.2, k.1))

pub some_landings : (s : ℕ) (es : List Effect) → 1 ≤ length es → 1 ≤ length (landings s es)
some_landings s [] h = absurd (omega arith)
some_landings s (e ∷ es) h = (length-onto s (added [] (landing s e) e.weight) es).0

-- a test that holds of what lands, and goes on holding where a weight is added, holds of every outcome

module _ (P : Outcome → Bool) (grows : (t v w : ℕ) → P (record { target = t; weight = v }) ≡ true → P (record { target = t; weight = v + w }) ≡ true) where
  all_added : (os : List Outcome) (t w : ℕ) → all P os ≡ true → P (record { target = t; weight = w }) ≡ true → all P (added os t w) ≡ true
  all_added [] t w a h = and_from _ true h refl
  all_added (o ∷ os) t w a h =
      let parts = and_parts (P o) (all P os) a in
      cond_both (eqb t o.target) (heavier o w ∷ os) (o ∷ added os t w)
      (λ (ws : List Outcome). all P ws ≡ true)
      (λ e. and_from _ (all P os) (grows o.target o.weight w parts.0) parts.1)
      (λ e. and_from (P o) _ parts.0 (all_added os t w parts.1 h))

  all_onto : (s : ℕ) (os : List Outcome) (es : List Effect) → all P os ≡ true → all (λ e. P (record { target = landing s e; weight = e.weight })) es ≡ true → all P (landings_onto s os es) ≡ true
  all_onto s os [] a h = a
  all_onto s os (e ∷ es) a h =
      let parts = and_parts (P (record { target = landing s e; weight = e.weight })) (all (λ f. P (record { target = landing s f; weight = f.weight })) es) h in
      all_onto s (added os (landing s e) e.weight) es (all_added os (landing s e) e.weight a parts.0) parts.1

pub all_landings : (P : Outcome → Bool) → ((t v w : ℕ) → P (record { target = t; weight = v }) ≡ true → P (record { target = t; weight = v + w }) ≡ true) → (s : ℕ) (es : List Effect) → all (λ e. P (record { target = landing s e; weight = e.weight })) es ≡ true → all P (landings s es) ≡ true
all_landings P grows s es h = all_onto P grows s [] es refl h

-- a known target's outcome grows at its place, a new one comes last

there_step : (b : Bool) (o : Outcome) (os : List Outcome) (t w p : ℕ) (d : Outcome) → (p < length os → added os t w ≡ set os p (heavier (get_or os p d) w)) → cond (not b) (1 + p) 0 < length (o ∷ os) → cond b (heavier o w ∷ os) (o ∷ added os t w) ≡ set (o ∷ os) (cond (not b) (1 + p) 0) (heavier (get_or (o ∷ os) (cond (not b) (1 + p) 0) d) w)
there_step true o os t w p d ih h = refl
there_step false o os t w p d ih h = ap (λ (ws : List Outcome). o ∷ ws) (ih (omega arith)) ∙ grind (arith, common_steps)

new_step : (b : Bool) (o : Outcome) (os : List Outcome) (t w p : ℕ) → (length os ≤ p → added os t w ≡ os ++ (record { target = t; weight = w } ∷ [])) → length (o ∷ os) ≤ cond (not b) (1 + p) 0 → cond b (heavier o w ∷ os) (o ∷ added os t w) ≡ o ∷ (os ++ (record { target = t; weight = w } ∷ []))
new_step true o os t w p ih h = absurd (omega arith)
new_step false o os t w p ih h = ap (λ (ws : List Outcome). o ∷ ws) (ih (omega arith))

added_there : (os : List Outcome) (t w : ℕ) (d : Outcome) → position_or_len (λ (o : Outcome). eqb t o.target) os < length os → added os t w ≡ set os (position_or_len (λ (o : Outcome). eqb t o.target) os) (heavier (get_or os (position_or_len (λ (o : Outcome). eqb t o.target) os) d) w)
added_there [] t w d h = absurd (omega arith)
added_there (o ∷ os) t w d h = there_step (eqb t o.target) o os t w (position_or_len (λ (o : Outcome). eqb t o.target) os) d (added_there os t w d) h

added_last : (os : List Outcome) (t w : ℕ) → length os ≤ position_or_len (λ (o : Outcome). eqb t o.target) os → added os t w ≡ os ++ (record { target = t; weight = w } ∷ [])
added_last [] t w h = refl
added_last (o ∷ os) t w h = new_step (eqb t o.target) o os t w (position_or_len (λ (o : Outcome). eqb t o.target) os) (added_last os t w) h

pub added_at : (os : List Outcome) (t w i : ℕ) (d : Outcome) → position (λ (o : Outcome). eqb t o.target) os ≡ Some i → added os t w ≡ set os i (heavier (get_or os i d) w)
added_at os t w i d e =
    let at : (position_or_len (λ (o : Outcome). eqb t o.target) os ≡ i) × (i < length os) = grind arith in
    subst (λ (n : ℕ). n < length os → added os t w ≡ set os n (heavier (get_or os n d) w)) at.0 (added_there os t w d) at.1

pub added_new : (os : List Outcome) (t w : ℕ) → position (λ (o : Outcome). eqb t o.target) os ≡ None → added os t w ≡ os ++ (record { target = t; weight = w } ∷ [])
added_new os t w e = added_last os t w (grind arith)
