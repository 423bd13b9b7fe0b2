-- The Boolean truth lines say what the plain ones say.
use Rattle.std.proofs.Common.{◌≡◌, ℕ, zero, suc, ◌/◌, ◌%◌, ◌^◌, ◌≤◌, Bool, true, false, ◌&&◌, ltb, sym, refl, ap, ◌∙◌, inl, inr, arith}
use Rattle.std.proofs.lemmas.Bool.{and_parts, and_from, or_cases, or_left, or_right, not-true, not_from_false, both_ways, cases_Bool, cases_eq, eqb-true, eq-eqb, ltb-true, lt-ltb}
use Rattle.formula.specs.Formulas.{atom, truth, negation, conjunction, disjunction, previously, since, always, sometime}
use Rattle.truth.specs.Truth.{all_to, some_to, implies, holds, PlainTruth}

pub all_to_at : (i : ℕ) (P : ℕ → Bool) (j : ℕ) → all_to i P ≡ true → j ≤ i → P j ≡ true
all_to_at zero P j h le = let e : j ≡ zero = omega arith in ap P e ∙ h
all_to_at (suc i) P j h le =
    let parts = and_parts (all_to i P) (P (suc i)) h in
    elim (cases_eq j (suc i)) [ inl e ↦ ap P e ∙ parts.1 | inr ne ↦ all_to_at i P j parts.0 (omega arith) ]

pub all_to_from : (i : ℕ) (P : ℕ → Bool) → ((j : ℕ) → j ≤ i → P j ≡ true) → all_to i P ≡ true
all_to_from zero P h = h zero (omega arith)
all_to_from (suc i) P h = and_from (all_to i P) (P (suc i)) (all_to_from i P (λ j le. h j (omega arith))) (h (suc i) (omega arith))

pub some_to_at : (i : ℕ) (P : ℕ → Bool) → some_to i P ≡ true → (j : ℕ) × ((j ≤ i) × (P j ≡ true))
some_to_at zero P h = (zero, (omega arith, h))
some_to_at (suc i) P h =
    elim (or_cases (some_to i P) (P (suc i)) h) [
      | inl e ↦ let found = some_to_at i P e in (found.0, (omega (arith, found.1.0), found.1.1))
      | inr e ↦ (suc i, (omega arith, e))
    ]

pub some_to_from : (i : ℕ) (P : ℕ → Bool) (j : ℕ) → j ≤ i → P j ≡ true → some_to i P ≡ true
some_to_from zero P j le h = let e : zero ≡ j = omega arith in ap P e ∙ h
some_to_from (suc i) P j le h =
    elim (cases_eq j (suc i)) [
      | inl e ↦ or_right (some_to i P) (P (suc i)) (ap P (sym e) ∙ h)
      | inr ne ↦ or_left (some_to i P) (P (suc i)) (some_to_from i P j (omega arith) h)
    ]

pub implies_at : (a b : Bool) → implies a b ≡ true → a ≡ true → b ≡ true
implies_at true b h e = h
implies_at false b h e = let z : ◌≡◌ {A = ℕ} 0 1 = cc in absurd (omega arith)

pub implies_from : (a b : Bool) → (a ≡ true → b ≡ true) → implies a b ≡ true
implies_from true b h = h refl
implies_from false b h = refl

-- both directions at once, formula by formula
pub plain_truth : PlainTruth
unfolding holds
plain_truth (atom p) τ i = (λ h. eqb-true (τ i / 2 ^ p % 2) 1 h, λ h. eq-eqb (τ i / 2 ^ p % 2) 1 h)
plain_truth truth τ i = (λ h. tt, λ h. refl)
plain_truth (negation a) τ i =
    let below = plain_truth a τ i in (
      λ h k. both_ways (holds a τ i) (not-true (holds a τ i) h) (below.1 k),
      λ h. elim (cases_Bool (holds a τ i)) [ inl e ↦ absurd (h (below.0 e)) | inr e ↦ not_from_false (holds a τ i) e ],
    )
plain_truth (conjunction a b) τ i =
    let left = plain_truth a τ i in
    let right = plain_truth b τ i in (
      λ h. let parts = and_parts (holds a τ i) (holds b τ i) h in (left.0 parts.0, right.0 parts.1),
      λ h. and_from (holds a τ i) (holds b τ i) (left.1 h.0) (right.1 h.1),
    )
plain_truth (disjunction a b) τ i =
    let left = plain_truth a τ i in
    let right = plain_truth b τ i in (
      λ h. elim (or_cases (holds a τ i) (holds b τ i) h) [ inl e ↦ inl (left.0 e) | inr e ↦ inr (right.0 e) ],
      λ h. elim h [ inl e ↦ or_left (holds a τ i) (holds b τ i) (left.1 e) | inr e ↦ or_right (holds a τ i) (holds b τ i) (right.1 e) ],
    )
plain_truth (previously a) τ zero = (λ h. let z : ◌≡◌ {A = ℕ} 0 1 = cc in absurd (omega arith), λ h. absurd (omega (arith, h.1.0)))
plain_truth (previously a) τ (suc i) = (
  λ h. (i, (refl, (plain_truth a τ i).0 h)),
  λ h. let same : i ≡ h.0 = omega (arith, h.1.0) in ap (λ j. holds a τ j) same ∙ (plain_truth a τ h.0).1 h.1.1,
)
plain_truth (since a b) τ i = (
  λ h.
      let found = some_to_at i (λ j. holds b τ j && all_to i (λ m. implies (ltb j m) (holds a τ m))) h in
      let parts = and_parts (holds b τ found.0) (all_to i (λ m. implies (ltb found.0 m) (holds a τ m))) found.1.1 in (
        found.0,
        (
          found.1.0,
          (
            (plain_truth b τ found.0).0 parts.0,
            λ m late le. (plain_truth a τ m).0 (implies_at (ltb found.0 m) (holds a τ m) (all_to_at i (λ m. implies (ltb found.0 m) (holds a τ m)) m parts.1 le) (lt-ltb found.0 m late)),
          ),
        ),
      ),
  λ h.
      some_to_from i (λ j. holds b τ j && all_to i (λ m. implies (ltb j m) (holds a τ m))) h.0 h.1.0
      (and_from (holds b τ h.0) (all_to i (λ m. implies (ltb h.0 m) (holds a τ m))) ((plain_truth b τ h.0).1 h.1.1.0)
      (all_to_from i (λ m. implies (ltb h.0 m) (holds a τ m)) (λ m le. implies_from (ltb h.0 m) (holds a τ m) (λ late. (plain_truth a τ m).1 (h.1.1.1 m (ltb-true h.0 m late) le))))),
)
plain_truth (always a) τ i = (
  λ h j le. (plain_truth a τ j).0 (all_to_at i (λ j. holds a τ j) j h le),
  λ h. all_to_from i (λ j. holds a τ j) (λ j le. (plain_truth a τ j).1 (h j le)),
)
plain_truth (sometime a) τ i = (
  λ h. let found = some_to_at i (λ j. holds a τ j) h in (found.0, (found.1.0, (plain_truth a τ found.0).0 found.1.1)),
  λ h. some_to_from i (λ j. holds a τ j) h.0 h.1.0 ((plain_truth a τ h.0).1 h.1.1),
)
