-- What the tests that the books share come to at each element, and one element on.
use Rattle.std.proofs.Common.{◌≡◌, ℕ, zero, suc, ◌<◌, ◌≤◌, Bool, true, false, leb, List, [], ◌∷◌, ◌++◌, length, get_or, replicate, Ok, Err, Result, refl, ap, ◌∙◌, inl, inr, arith}
use Rattle.std.proofs.lemmas.Bool.{and_parts, and_from, leb-true, le-leb, cases_eq}
use Rattle.std.proofs.lemmas.List.Elements.{All-replicate, All-get_or, All-from_get_or}
use Rattle.std.proofs.lemmas.List.Folds.{list_all-append}
use Rattle.std.proofs.lemmas.List.Sums.{AllPass-from_list_all, list_all-from_AllPass}
use Rattle.refusal.specs.declared.Refusal.{Refusal}
use Rattle.words.specs.Tests.{all, all_below, within}
use Rattle.words.specs.Format.{Step, wrong, more, ends, check, require, onto}

pub all_append : {X : Type 0} (P : X → Bool) (xs ys : List X) → all P xs ≡ true → all P ys ≡ true → all P (xs ++ ys) ≡ true
all_append P xs ys a b = list_all-append P xs ys ∙ and_from (all P xs) (all P ys) a b

pub all_push : {X : Type 0} (P : X → Bool) (xs : List X) (y : X) → all P xs ≡ true → P y ≡ true → all P (xs ++ (y ∷ [])) ≡ true
all_push P xs y a h = all_append P xs (y ∷ []) a (and_from (P y) true h refl)

pub all_replicate : {X : Type 0} (P : X → Bool) (n : ℕ) (x : X) → P x ≡ true → all P (replicate n x) ≡ true
all_replicate P n x h = list_all-from_AllPass P (replicate n x) (All-replicate (λ y. P y ≡ true) n x h)

pub all_at : {X : Type 0} (P : X → Bool) (xs : List X) (i : ℕ) (d : X) → all P xs ≡ true → i < length xs → P (get_or xs i d) ≡ true
all_at P xs i d a h = All-get_or (λ x. P x ≡ true) xs i d h (AllPass-from_list_all P xs a)

pub all_from : {X : Type 0} (P : X → Bool) (xs : List X) (d : X) → ((i : ℕ) → i < length xs → P (get_or xs i d) ≡ true) → all P xs ≡ true
all_from P xs d h = list_all-from_AllPass P xs (All-from_get_or (λ x. P x ≡ true) xs d h)

pub all_below_at : (n : ℕ) (P : ℕ → Bool) (i : ℕ) → all_below n P ≡ true → i < n → P i ≡ true
all_below_at zero P i a h = absurd (omega arith)
all_below_at (suc n) P i a h =
    let parts = and_parts (all_below n P) (P n) a in
    elim (cases_eq i n) [ inl e ↦ ap P e ∙ parts.1 | inr ne ↦ all_below_at n P i parts.0 (omega arith) ]

pub all_below_from : (n : ℕ) (P : ℕ → Bool) → ((i : ℕ) → i < n → P i ≡ true) → all_below n P ≡ true
all_below_from zero P h = refl
all_below_from (suc n) P h = and_from (all_below n P) (P n) (all_below_from n P (λ i l. h i (omega arith))) (h n (omega arith))

pub within_parts : (low high n : ℕ) → within low high n ≡ true → (low ≤ n) × (n ≤ high)
within_parts low high n e =
    let parts = and_parts (leb low n) (leb n high) e in
    (leb-true low n parts.0, leb-true n high parts.1)

pub within_from : (low high n : ℕ) → low ≤ n → n ≤ high → within low high n ≡ true
within_from low high n h k = and_from (leb low n) (leb n high) (le-leb low n h) (le-leb n high k)

pub same_more : {S : Type 0} {x y : S} → more x ≡ more y → x ≡ y
same_more e = cc

pub wrong_is_not_more : {S : Type 0} {r : Refusal} {t : S} → wrong r ≡ more t → ⊥
wrong_is_not_more e = let z : ◌≡◌ {A = ℕ} 0 1 = cc in omega arith

pub wrong_is_not_end : {S : Type 0} {r : Refusal} → ◌≡◌ {A = Step S} (wrong r) ends → ⊥
wrong_is_not_end e = let z : ◌≡◌ {A = ℕ} 0 1 = cc in omega arith

-- where a word was read, it passed the test
pub check_more : {S : Type 0} (b : Bool) (r : Refusal) (next : Step S) (t : S) → check b r next ≡ more t → (b ≡ true) × (next ≡ more t)
check_more true r next t e = (refl, e)
check_more false r next t e = absurd (wrong_is_not_more e)

pub check_ends : {S : Type 0} (b : Bool) (r : Refusal) (next : Step S) → check b r next ≡ ends → (b ≡ true) × (next ≡ ends)
check_ends true r next e = (refl, e)
check_ends false r next e = absurd (wrong_is_not_end e)

pub check_passed : {S : Type 0} (b : Bool) (r : Refusal) (next : Step S) → b ≡ true → check b r next ≡ next
check_passed true r next e = refl
check_passed false r next e = let z : ◌≡◌ {A = ℕ} 0 1 = cc in absurd (omega arith)

pub require_ok : {X : Type 0} (b : Bool) (r : Refusal) (next : Result X Refusal) (x : X) → require b r next ≡ Ok x → (b ≡ true) × (next ≡ Ok x)
require_ok true r next x e = (refl, e)
require_ok false r next x e = let z : ◌≡◌ {A = ℕ} 0 1 = cc in absurd (omega arith)

pub require_passed : {X : Type 0} (b : Bool) (r : Refusal) (next : Result X Refusal) → b ≡ true → require b r next ≡ next
require_passed true r next e = refl
require_passed false r next e = let z : ◌≡◌ {A = ℕ} 0 1 = cc in absurd (omega arith)

pub onto_more : {X S : Type 0} (said : Result X Refusal) (next : X → Step S) (t : S) → onto said next ≡ more t → (x : X) × ((said ≡ Ok x) × (next x ≡ more t))
onto_more (Ok x) next t e = (x, (refl, e))
onto_more (Err r) next t e = absurd (wrong_is_not_more e)

pub onto_ends : {X S : Type 0} (said : Result X Refusal) (next : X → Step S) → onto said next ≡ ends → (x : X) × ((said ≡ Ok x) × (next x ≡ ends))
onto_ends (Ok x) next e = (x, (refl, e))
onto_ends (Err r) next e = absurd (wrong_is_not_end e)
