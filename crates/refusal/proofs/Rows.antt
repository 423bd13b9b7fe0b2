-- Whatever the rows, the first that is not passed decides. For others: `decided`, `passed`,
-- and what an answer tells of why it is refused, `unrefused` and `refused_by`.
use Rattle.std.proofs.Common.{◌≡◌, ℕ, zero, suc, ◌<◌, Bool, true, false, List, [], ◌∷◌, Some, None, Option, Ok, Err, sym, refl, ap, subst, arith}
use Rattle.std.specs.List.{slice_get}
use Rattle.std.proofs.lemmas.Option.{none-some, same_Some}
use Rattle.refusal.specs.declared.Refusal.{Refusal}
use Rattle.refusal.specs.Rows.{Row, first_failing, FailsFirst, Decided, unless}

-- one row more that is passed: the first one that is not is one place later
passed_before : (r : Refusal) (rows : List Row) (why : Refusal) (k : ℕ) → FailsFirst rows why k → (j : ℕ) (row : Row) → j < suc k → slice_get ((true, r) ∷ rows) j ≡ Some row → row.0 ≡ true
passed_before r rows why k first zero row l at = ap (λ (x : Row). x.0) (sym (same_Some (true, r) row at))
passed_before r rows why k first (suc j) row l at = first.before j row (omega (arith, l)) at

passed_all : (r : Refusal) (rows : List Row) → Decided rows None → (k : ℕ) (row : Row) → slice_get ((true, r) ∷ rows) k ≡ Some row → row.0 ≡ true
passed_all r rows rest zero row at = ap (λ (x : Row). x.0) (sym (same_Some (true, r) row at))
passed_all r rows rest (suc k) row at = rest k row at

passed_on : (r : Refusal) (rows : List Row) (o : Option Refusal) → Decided rows o → Decided ((true, r) ∷ rows) o
passed_on r rows (Some why) rest = (suc rest.0, record { row = rest.1.row; before = passed_before r rows why rest.0 rest.1 })
passed_on r rows None rest = passed_all r rows rest

decided_on : (passed : Bool) (r : Refusal) (rows : List Row) → Decided rows (first_failing rows) → Decided ((passed, r) ∷ rows) (first_failing ((passed, r) ∷ rows))
decided_on false r rows rest = (0, record { row = refl; before = λ j row l at. absurd (omega (arith, l)) })
decided_on true r rows rest = passed_on r rows (first_failing rows) rest

pub decided : (rows : List Row) → Decided rows (first_failing rows)
decided [] = λ k row at. absurd (none-some row at)
decided (row ∷ rows) = decided_on row.0 row.1 rows (decided rows)

-- where nothing is refused, every row is passed
pub passed : (rows : List Row) → first_failing rows ≡ None → Decided rows None
passed rows e = subst (Decided rows) e (decided rows)

-- a value is answered only where nothing is refused, and a refusal only where it is the one
pub unrefused : {V : Type 0} (why : Option Refusal) (v w : V) → unless why v ≡ Ok w → why ≡ None
unrefused None v w is = refl
unrefused (Some r) v w is = let z : ◌≡◌ {A = ℕ} 0 1 = cc in absurd (omega arith)

pub refused_by : {V : Type 0} (why : Option Refusal) (v : V) (r : Refusal) → unless why v ≡ Err r → why ≡ Some r
refused_by None v r is = let z : ◌≡◌ {A = ℕ} 0 1 = cc in absurd (omega arith)
refused_by (Some q) v r is = let same : q ≡ r = cc in ap Some same
