-- Sizes that are not refused. For others: `sizes_pass`, what sizes that are not refused pass; `accepted`, that they are refused for no
-- value; `accepted_short`, the horizon.
use Rattle.std.proofs.Common.{◌≡◌, ℕ, ◌+◌, ◌*◌, ◌≤◌, true, [], ◌∷◌, leb, Ok, Err, Some, None, Option, Result, refl, sym, ap, arith}
use Rattle.std.proofs.lemmas.Bool.{leb-true, and_parts}
use Rattle.refusal.specs.declared.Refusal.{Refusal}
use Rattle.refusal.specs.declared.Refusal.TheVariants.{HorizonTooLong, PlanTableShort}
use Rattle.refusal.specs.Rows.{unless}
use Rattle.refusal.proofs.Rows.{passed, unrefused}
use Rattle.planning.specs.Plans.{tables_hold, sizes_refusal}

module _ (s h a b : ℕ) where
  -- a horizon of at most twelve slots, and room for all places in both tables
  pub sizes_pass : sizes_refusal s h a b ≡ None → (h ≤ 12) × (((h + 1) * s ≤ a) × (h * s ≤ b))
  sizes_pass none =
      let rows = (leb h 12, HorizonTooLong) ∷ ((tables_hold s h a b, PlanTableShort) ∷ []) in
      let short : leb h 12 ≡ true = passed rows none 0 (leb h 12, HorizonTooLong) refl in
      let hold : tables_hold s h a b ≡ true = passed rows none 1 (tables_hold s h a b, PlanTableShort) refl in
      let both = and_parts (leb ((h + 1) * s) a) (leb (h * s) b) hold in
      (leb-true h 12 short, (leb-true ((h + 1) * s) a both.0, leb-true (h * s) b both.1))

  module _ (is : ◌≡◌ {A = Result (Unit {0}) Refusal} (Ok tt) (unless (sizes_refusal s h a b) tt)) where
    pub accepted : {V : Type 0} (v : V) → Ok v ≡ unless (sizes_refusal s h a b) v
    accepted v = ap (λ why. unless why v) (sym (unrefused (sizes_refusal s h a b) tt tt (sym is)))

    pub accepted_short : h ≤ 12
    accepted_short = (sizes_pass (unrefused (sizes_refusal s h a b) tt tt (sym is))).0
