-- The marks are exact: a node is marked if and only if it rests.
use Rattle.std.proofs.Common.{◌≡◌, ℕ, zero, suc, ◌<◌, ◌≤◌, Bool, true, false, cond, ◌⊎◌, List, [], ◌∷◌, length, get_or, set, replicate, sym, refl, ap, ◌∙◌, subst, inl, inr, arith, rules}
use Rattle.std.specs.List.{Contains, All}
use Rattle.std.proofs.lemmas.List.Elements.{Contains-append_right, All-head, All-tail}
use Rattle.std.proofs.lemmas.List.{length-set, length-replicate, get_or-set_same, get_or-set_other, get_or-replicate, get_or_past}
use Rattle.std.proofs.lemmas.Bool.{both_ways, cond_both, cond-true, cases_lt, cases_eq}
use Rattle.formula.specs.declared.Node.{Node}
use Rattle.formula.specs.declared.Node.TheVariants.{True}
use Rattle.formula.specs.Formulas.{earlier}
use Rattle.formula.specs.Resting.{operands, Rests, root, below, all_marked, spread, resting, Exact}
use Rattle.formula.proofs.Trees.{earlier_at}
use Rattle.formula.proofs.Apart.{operands_are_below}

-- membership in a list that begins with a
has_first : (a : ℕ) (as' : List ℕ) (i : ℕ) → a ≡ i → Contains (a ∷ as') i
has_first a as' i e = (0, omega arith, e)

has_cases : (a : ℕ) (as' : List ℕ) (i : ℕ) → Contains (a ∷ as') i → (a ≡ i) ⊎ Contains as' i
has_cases a as' i (zero, l, at) = inl at
has_cases a as' i (suc k, l, at) = inr (k, omega arith, at)

none_has : (i : ℕ) → Contains [] i → ⊥
none_has i (k, l, at) = omega arith

pub length-all_marked : (ms : List Bool) (as' : List ℕ) → length (all_marked ms as') ≡ length ms
length-all_marked ms [] = refl
length-all_marked ms (a ∷ as') = length-all_marked (set ms a true) as' ∙ length-set ms a true

set_stays : (ms : List Bool) (a i : ℕ) → get_or ms i false ≡ true → get_or (set ms a true) i false ≡ true
set_stays ms a i h =
    elim (cases_eq i a) [
      | inl e ↦ elim (cases_lt i (length ms)) [
        | inl l ↦ subst (λ (j : ℕ). get_or (set ms j true) i false ≡ true) e (get_or-set_same ms i true false l)
        | inr past ↦ absurd (both_ways (get_or ms i false) (get_or_past ms i false past) h)
      ]
      | inr ne ↦ get_or-set_other ms a i true false ne ∙ h
    ]

set-from : (ms : List Bool) (a i : ℕ) → get_or (set ms a true) i false ≡ true → (a ≡ i) ⊎ (get_or ms i false ≡ true)
set-from ms a i h = search rules

-- what is marked stays marked
all_marked_stays : (ms : List Bool) (as' : List ℕ) (i : ℕ) → get_or ms i false ≡ true → get_or (all_marked ms as') i false ≡ true
all_marked_stays ms [] i h = h
all_marked_stays ms (a ∷ as') i h = all_marked_stays (set ms a true) as' i (set_stays ms a i h)

-- what was to be marked is
all_marked_marks : (ms : List Bool) (as' : List ℕ) (i : ℕ) → Contains as' i → i < length ms → get_or (all_marked ms as') i false ≡ true
all_marked_marks ms [] i had l = absurd (none_has i had)
all_marked_marks ms (a ∷ as') i had l =
    elim (has_cases a as' i had) [
      | inl e ↦ all_marked_stays (set ms a true) as' i (subst (λ (j : ℕ). get_or (set ms j true) i false ≡ true) (sym e) (get_or-set_same ms i true false l))
      | inr rest ↦ all_marked_marks (set ms a true) as' i rest (omega (arith, length-set ms a true))
    ]

-- and nothing else
all_marked_from : (ms : List Bool) (as' : List ℕ) (i : ℕ) → get_or (all_marked ms as') i false ≡ true → Contains as' i ⊎ (get_or ms i false ≡ true)
all_marked_from ms [] i h = inr h
all_marked_from ms (a ∷ as') i h =
    elim (all_marked_from (set ms a true) as' i h) [
      | inl had ↦ inl (Contains-append_right (a ∷ []) as' i had)
      | inr was ↦ elim (set-from ms a i was) [ inl e ↦ inl (has_first a as' i e) | inr old ↦ inr old ]
    ]

all_marked_high : (ms : List Bool) (as' : List ℕ) (k i : ℕ) → All (λ a. a < k) as' → k ≤ i → get_or (all_marked ms as') i false ≡ get_or ms i false
all_marked_high ms [] k i low l = refl
all_marked_high ms (a ∷ as') k i low l =
    let ne : i ≡ a → ⊥ = λ e. omega (arith, All-head (λ b. b < k) a as' low) in
    all_marked_high (set ms a true) as' k i (All-tail (λ b. b < k) a as' low) l ∙ get_or-set_other ms a i true false ne

-- of no marks, none is at any place
pub unmarked : (n i : ℕ) → get_or (replicate n false) i false ≡ false
unmarked n i =
    elim (cases_lt i n) [
      | inl l ↦ get_or-replicate n i false false l
      | inr past ↦ get_or_past (replicate n false) i false (omega (arith, length-replicate n false))
    ]

module _ (nodes : List Node) where
  -- the marks after node k
  turned : ℕ → List Bool → List Bool
  turned k ms = cond (get_or ms k false) (all_marked ms (operands (get_or nodes k True))) ms

  length-turned : (k : ℕ) (ms : List Bool) → length (turned k ms) ≡ length ms
  unfolding turned
  length-turned k ms = search rules

  turned_stays : (k : ℕ) (ms : List Bool) (i : ℕ) → get_or ms i false ≡ true → get_or (turned k ms) i false ≡ true
  unfolding turned
  turned_stays k ms i h =
      cond_both (get_or ms k false) (all_marked ms (operands (get_or nodes k True))) ms (λ r. get_or r i false ≡ true)
      (λ _. all_marked_stays ms (operands (get_or nodes k True)) i h) (λ _. h)

  turned_marks : (k : ℕ) (ms : List Bool) (i : ℕ) → get_or ms k false ≡ true → Contains (operands (get_or nodes k True)) i → i < length ms → get_or (turned k ms) i false ≡ true
  unfolding turned
  turned_marks k ms i here had l =
      subst (λ r. get_or r i false ≡ true) (sym (cond-true (get_or ms k false) (all_marked ms (operands (get_or nodes k True))) ms here))
      (all_marked_marks ms (operands (get_or nodes k True)) i had l)

  turned_high : (k : ℕ) (ms : List Bool) (i : ℕ) → All (λ a. a < k) (operands (get_or nodes k True)) → k ≤ i → get_or (turned k ms) i false ≡ get_or ms i false
  unfolding turned
  turned_high k ms i low l = search rules

  spread_step : (k : ℕ) (ms : List Bool) → spread nodes (suc k) ms ≡ spread nodes k (turned k ms)
  unfolding turned
  spread_step k ms = refl

  pub length-spread : (k : ℕ) (ms : List Bool) → length (spread nodes k ms) ≡ length ms
  length-spread zero ms = refl
  length-spread (suc k) ms = ap length (spread_step k ms) ∙ length-spread k (turned k ms) ∙ length-turned k ms

  spread_stays : (k : ℕ) (ms : List Bool) (i : ℕ) → get_or ms i false ≡ true → get_or (spread nodes k ms) i false ≡ true
  spread_stays zero ms i h = h
  spread_stays (suc k) ms i h =
      ap (λ r. get_or r i false) (spread_step k ms) ∙ spread_stays k (turned k ms) i (turned_stays k ms i h)

  low_operands : earlier nodes ≡ true → (k : ℕ) → k < length nodes → All (λ a. a < k) (operands (get_or nodes k True))
  low_operands h k l = operands_are_below k (get_or nodes k True) (earlier_at nodes k h l)

  spread_high : earlier nodes ≡ true → (k : ℕ) (ms : List Bool) (i : ℕ) → k ≤ length nodes → k ≤ i → get_or (spread nodes k ms) i false ≡ get_or ms i false
  spread_high h zero ms i m l = refl
  spread_high h (suc k) ms i m l =
      ap (λ r. get_or r i false) (spread_step k ms)
      ∙ spread_high h k (turned k ms) i (omega arith) (omega arith)
      ∙ turned_high k ms i (low_operands h k (omega arith)) (omega arith)

  -- the operands of a marked node are marked
  spread_closed : earlier nodes ≡ true → (k : ℕ) (ms : List Bool) (i a : ℕ) → k ≤ length nodes → i < k → get_or (spread nodes k ms) i false ≡ true → Contains (operands (get_or nodes i True)) a → a < length ms → get_or (spread nodes k ms) a false ≡ true
  spread_closed h zero ms i a m l marked had in' = absurd (omega arith)
  spread_closed h (suc k) ms i a m l marked had in' =
      let after = ap (λ r. get_or r a false) (spread_step k ms) in
      let marked' : get_or (spread nodes k (turned k ms)) i false ≡ true = sym (ap (λ r. get_or r i false) (spread_step k ms)) ∙ marked in
      elim (cases_lt i k) [
        | inl less ↦ after ∙ spread_closed h k (turned k ms) i a (omega arith) less marked' had (omega (arith, length-turned k ms))
        | inr past ↦
            let at : i ≡ k = omega arith in
            let was : get_or ms k false ≡ true =
            sym (turned_high k ms k (low_operands h k (omega arith)) (omega arith))
            ∙ sym (spread_high h k (turned k ms) k (omega arith) (omega arith))
            ∙ subst (λ (j : ℕ). get_or (spread nodes k (turned k ms)) j false ≡ true) at marked' in
            after
            ∙ spread_stays k (turned k ms) a
            (turned_marks k ms a was (subst (λ (j : ℕ). Contains (operands (get_or nodes j True)) a) at had) in')
      ]

  module _ (roots : List ℕ) where
    turned_only : (k : ℕ) (ms : List Bool) → ((i : ℕ) → get_or ms i false ≡ true → Rests nodes roots i) → (i : ℕ) → get_or (turned k ms) i false ≡ true → Rests nodes roots i
    unfolding turned
    turned_only k ms sound i =
        cond_both (get_or ms k false) (all_marked ms (operands (get_or nodes k True))) ms (λ r. get_or r i false ≡ true → Rests nodes roots i)
        (λ here h. elim (all_marked_from ms (operands (get_or nodes k True)) i h) [ inl had ↦ below (sound k here) had | inr was ↦ sound i was ])
        (λ _. sound i)

    -- every mark is of a node that rests
    spread_only : (k : ℕ) (ms : List Bool) → ((i : ℕ) → get_or ms i false ≡ true → Rests nodes roots i) → (i : ℕ) → get_or (spread nodes k ms) i false ≡ true → Rests nodes roots i
    spread_only zero ms sound i h = sound i h
    spread_only (suc k) ms sound i h =
        spread_only k (turned k ms) (turned_only k ms sound) i (sym (ap (λ r. get_or r i false) (spread_step k ms)) ∙ h)

    first_only : (i : ℕ) → get_or (all_marked (replicate (length nodes) false) roots) i false ≡ true → Rests nodes roots i
    first_only i h =
        elim (all_marked_from (replicate (length nodes) false) roots i h) [
          | inl had ↦ root had
          | inr was ↦ absurd (both_ways (get_or (replicate (length nodes) false) i false) (unmarked (length nodes) i) was)
        ]

    length-first : length (all_marked (replicate (length nodes) false) roots) ≡ length nodes
    length-first = length-all_marked (replicate (length nodes) false) roots ∙ length-replicate (length nodes) false

    -- a node past the end has no operands
    no_operands : (i a : ℕ) → length nodes ≤ i → Contains (operands (get_or nodes i True)) a → ⊥
    no_operands i a past had =
        none_has a (subst (λ n. Contains (operands n) a) (get_or_past nodes i True past) had)

    rests_marked : earlier nodes ≡ true → (i : ℕ) → Rests nodes roots i → i < length nodes → get_or (resting nodes roots) i false ≡ true
    rests_marked h i (root had) l =
        spread_stays (length nodes) (all_marked (replicate (length nodes) false) roots) i
        (all_marked_marks (replicate (length nodes) false) roots i had (omega (arith, length-replicate (length nodes) false)))
    rests_marked h a (below {i} rests had) l =
        elim (cases_lt i (length nodes)) [
          | inl in' ↦
              spread_closed h (length nodes) (all_marked (replicate (length nodes) false) roots) i a (omega arith) in'
              (rests_marked h i rests in') had (omega (arith, length-first))
          | inr past ↦ absurd (no_operands i a past had)
        ]

    pub length-resting : length (resting nodes roots) ≡ length nodes
    length-resting = length-spread (length nodes) (all_marked (replicate (length nodes) false) roots) ∙ length-first

    pub exact : earlier nodes ≡ true → Exact nodes roots
    exact h = record {
      every = λ i l rests. rests_marked h i rests l;
      only = λ i l marked. spread_only (length nodes) (all_marked (replicate (length nodes) false) roots) first_only i marked;
    }
