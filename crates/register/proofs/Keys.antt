-- What entering does to a list of keys.
use Rattle.std.proofs.Common.{◌≡◌, ℕ, zero, suc, ◌+◌, ◌<◌, ◌≤◌, Bool, true, false, cond, List, [], ◌∷◌, ◌++◌, length, get_or, take, sym, refl, ap, ◌∙◌, subst, ⊎_elim, arith}
use Rattle.std.specs.List.{Contains}
use Rattle.std.proofs.lemmas.List.Elements.{Contains-get_or, at_from_Contains}
use Rattle.std.specs.Cmp.{IsEquivalence}
use Rattle.register.specs.Keys.{Equal, DistinctBy, place_of, enter, enter_all}
use Rattle.std.proofs.lemmas.List.{length_push, get_or_append_left, get_or_push, take_at, take_all, take-take, take_more}
use Rattle.std.proofs.lemmas.Bool.{cond_both, cond-true, cond-false, both_ways, lt-ltb, le-ltb, cases_lt}

pub place_of_le : {K : Type 0} (eq : K → K → Bool) (k : K) (ks : List K) → place_of eq k ks ≤ length ks
place_of_le eq k [] = omega arith
place_of_le eq k (x ∷ xs) =
    let rest : place_of eq k xs ≤ length xs = place_of_le eq k xs in
    cond_both (eq k x) 0 (suc (place_of eq k xs)) (λ n. n ≤ suc (length xs)) (λ e. omega arith) (λ e. omega arith)

-- at its place the test holds,
pub place_of_holds : {K : Type 0} (eq : K → K → Bool) (k : K) (ks : List K) (d : K) → place_of eq k ks < length ks → eq k (get_or ks (place_of eq k ks) d) ≡ true
place_of_holds eq k [] d = λ l. absurd (omega arith)
place_of_holds eq k (x ∷ xs) d =
    cond_both (eq k x) 0 (suc (place_of eq k xs)) (λ n. n < suc (length xs) → eq k (get_or (x ∷ xs) n d) ≡ true)
    (λ e l. e)
    (λ e l. place_of_holds eq k xs d (omega arith))

-- and before it nowhere
pub place_of_fails : {K : Type 0} (eq : K → K → Bool) (k : K) (ks : List K) (i : ℕ) (d : K) → i < place_of eq k ks → eq k (get_or ks i d) ≡ false
place_of_fails eq k [] i d = λ l. absurd (omega arith)
place_of_fails eq k (x ∷ xs) zero d =
    cond_both (eq k x) 0 (suc (place_of eq k xs)) (λ n. 0 < n → eq k x ≡ false)
    (λ e l. absurd (omega arith))
    (λ e l. e)
place_of_fails eq k (x ∷ xs) (suc i) d =
    cond_both (eq k x) 0 (suc (place_of eq k xs)) (λ n. suc i < n → eq k (get_or xs i d) ≡ false)
    (λ e l. absurd (omega arith))
    (λ e l. place_of_fails eq k xs i d (omega arith))

-- a search that has come to i finds the key there,
pub place_of_here : {K : Type 0} (eq : K → K → Bool) (k : K) (ks : List K) (i : ℕ) (d : K) → i ≤ place_of eq k ks → i < length ks → eq k (get_or ks i d) ≡ true → place_of eq k ks ≡ i
place_of_here eq k [] i d = λ l m. absurd (omega arith)
place_of_here eq k (x ∷ xs) zero d = λ l m e. cond-true (eq k x) 0 (suc (place_of eq k xs)) e
place_of_here eq k (x ∷ xs) (suc i) d =
    cond_both (eq k x) 0 (suc (place_of eq k xs)) (λ n. suc i ≤ n → suc i < suc (length xs) → eq k (get_or xs i d) ≡ true → n ≡ suc i)
    (λ _ l. absurd (omega arith))
    (λ _ l m e. ap (λ n. suc n) (place_of_here eq k xs i d (omega arith) (omega arith) e))

-- or goes past
pub place_of_past : {K : Type 0} (eq : K → K → Bool) (k : K) (ks : List K) (i : ℕ) (d : K) → i ≤ place_of eq k ks → i < length ks → eq k (get_or ks i d) ≡ false → i + 1 ≤ place_of eq k ks
place_of_past eq k [] i d = λ l m. absurd (omega arith)
place_of_past eq k (x ∷ xs) zero d = λ l m e. omega (arith, cond-false (eq k x) 0 (suc (place_of eq k xs)) e)
place_of_past eq k (x ∷ xs) (suc i) d =
    cond_both (eq k x) 0 (suc (place_of eq k xs)) (λ n. suc i ≤ n → suc i < suc (length xs) → eq k (get_or xs i d) ≡ false → suc i + 1 ≤ n)
    (λ _ l. absurd (omega arith))
    (λ _ l m e. omega (arith, place_of_past eq k xs i d (omega arith) (omega arith) e))

-- a key that is there changes nothing
pub enter_there : {K : Type 0} (eq : K → K → Bool) (k : K) (ks : List K) → place_of eq k ks < length ks → enter eq k ks ≡ ks
enter_there eq k ks l = cond-true _ ks (ks ++ (k ∷ [])) (lt-ltb (place_of eq k ks) (length ks) l)

-- a new one comes last
pub enter_new : {K : Type 0} (eq : K → K → Bool) (k : K) (ks : List K) → length ks ≤ place_of eq k ks → enter eq k ks ≡ ks ++ (k ∷ [])
enter_new eq k ks l = cond-false _ ks (ks ++ (k ∷ [])) (le-ltb (place_of eq k ks) (length ks) l)

-- a fact of the list after an entry, by the two cases
pub enter_both : {K : Type 0} (eq : K → K → Bool) (k : K) (ks : List K) (P : List K → Type 0) → (place_of eq k ks < length ks → P ks) → (place_of eq k ks ≡ length ks → P (ks ++ (k ∷ []))) → P (enter eq k ks)
enter_both eq k ks P there new =
    ⊎_elim
    (λ l. subst P (sym (enter_there eq k ks l)) (there l))
    (λ l. subst P (sym (enter_new eq k ks l)) (new (omega (arith, place_of_le eq k ks))))
    (cases_lt (place_of eq k ks) (length ks))

pub enter_place : {K : Type 0} (eq : K → K → Bool) (k : K) (ks : List K) → place_of eq k ks < length (enter eq k ks)
enter_place eq k ks =
    enter_both eq k ks (λ r. place_of eq k ks < length r) (λ l. l) (λ e. omega (arith, e, length_push ks k))

-- what stands at the place of a key, once it is entered, is equal to it
pub enter_holds : {K : Type 0} (eq : K → K → Bool) → IsEquivalence eq → (k : K) (ks : List K) (d : K) → eq k (get_or (enter eq k ks) (place_of eq k ks) d) ≡ true
enter_holds eq E k ks d =
    enter_both eq k ks (λ r. eq k (get_or r (place_of eq k ks) d) ≡ true) (place_of_holds eq k ks d)
    (λ e. subst (λ x. eq k x ≡ true) (sym (get_or_push ks k d (place_of eq k ks) (sym e))) (E.refl k))

pub enter-length : {K : Type 0} (eq : K → K → Bool) (k : K) (ks : List K) → (length ks ≤ length (enter eq k ks)) × (length (enter eq k ks) ≤ length ks + 1)
enter-length eq k ks =
    enter_both eq k ks (λ r. (length ks ≤ length r) × (length r ≤ length ks + 1))
    (λ l. (omega arith, omega arith))
    (λ e. (omega (arith, length_push ks k), omega (arith, length_push ks k)))

-- the keys that were there keep their places
pub enter-take : {K : Type 0} (eq : K → K → Bool) (k : K) (ks : List K) → take (length ks) (enter eq k ks) ≡ ks
enter-take eq k ks =
    enter_both eq k ks (λ r. take (length ks) r ≡ ks) (λ _. take_all (length ks) ks (omega arith))
    (λ _. take_at ks (k ∷ []) (length ks) refl)

-- what stands at the place of a key among the keys is equal to it,
pub placed_has : {K : Type 0} (eq : K → K → Bool) (k : K) (ks : List K) → place_of eq k ks < length ks → (y : K) × Contains ks y × Equal eq k y
placed_has eq k ks l = (get_or ks (place_of eq k ks) k, Contains-get_or ks (place_of eq k ks) k l, place_of_holds eq k ks k l)

-- and to a key with its place past them none is
pub placed_new : {K : Type 0} (eq : K → K → Bool) → IsEquivalence eq → (k : K) (ks : List K) → place_of eq k ks ≡ length ks → (y : K) → Contains ks y → Equal eq y k → ⊥
placed_new eq E k ks e y had same =
    let there = at_from_Contains ks y had in
    both_ways (eq k y) (subst (λ x. eq k x ≡ false) (there.2 k) (place_of_fails eq k ks there.0 k (omega (arith, there.1)))) (E.symm k y ∙ same)

pub new_apart : {K : Type 0} (Same : K → K → Type 0) (k : K) (ks : List K) → DistinctBy Same ks → ((y : K) → Contains ks y → Same y k → ⊥) → DistinctBy Same (ks ++ (k ∷ []))
new_apart Same k ks apart new i j d l m same =
    let i-in : i < length ks = omega (arith, length_push ks k) in
    let at_i = get_or_append_left ks (k ∷ []) d i i-in in
    let here = subst (λ x. Same x (get_or (ks ++ (k ∷ [])) j d)) at_i same in
    ⊎_elim
    (λ (j-in : j < length ks). apart i j d l j-in (subst (Same (get_or ks i d)) (get_or_append_left ks (k ∷ []) d j j-in) here))
    (λ (past : length ks ≤ j).
    let last : length ks ≡ j = omega (arith, length_push ks k) in
    new (get_or ks i d) (Contains-get_or ks i d i-in) (subst (Same (get_or ks i d)) (get_or_push ks k d j last) here))
    (cases_lt j (length ks))

pub enter_distinct : {K : Type 0} (eq : K → K → Bool) → IsEquivalence eq → (k : K) (ks : List K) → DistinctBy (Equal eq) ks → DistinctBy (Equal eq) (enter eq k ks)
enter_distinct eq E k ks apart =
    enter_both eq k ks (DistinctBy (Equal eq)) (λ _. apart) (λ e. new_apart (Equal eq) k ks apart (placed_new eq E k ks e))

pub enter_all-append : {K : Type 0} (eq : K → K → Bool) (held ks js : List K) → enter_all eq held (ks ++ js) ≡ enter_all eq (enter_all eq held ks) js
enter_all-append eq held [] js = refl
enter_all-append eq held (k ∷ ks) js = enter_all-append eq (enter eq k held) ks js

-- one key more
pub enter_all_more : {K : Type 0} (eq : K → K → Bool) (held ks : List K) (i : ℕ) (d : K) → i < length ks → enter_all eq held (take (i + 1) ks) ≡ enter eq (get_or ks i d) (enter_all eq held (take i ks))
enter_all_more eq held ks i d l =
    ap (enter_all eq held) (take_more ks i d l) ∙ enter_all-append eq held (take i ks) (get_or ks i d ∷ [])

pub enter_all-length : {K : Type 0} (eq : K → K → Bool) (held ks : List K) → (length held ≤ length (enter_all eq held ks)) × (length (enter_all eq held ks) ≤ length held + length ks)
enter_all-length eq held [] = (omega arith, omega arith)
enter_all-length eq held (k ∷ ks) = (
  omega (arith, enter-length eq k held, enter_all-length eq (enter eq k held) ks),
  omega (arith, enter-length eq k held, enter_all-length eq (enter eq k held) ks),
)

-- the keys that were there keep their places
pub enter_all-take : {K : Type 0} (eq : K → K → Bool) (held ks : List K) → take (length held) (enter_all eq held ks) ≡ held
enter_all-take eq held [] = take_all (length held) held (omega arith)
enter_all-take eq held (k ∷ ks) =
    let more = enter-length eq k held in
    let all = enter_all eq (enter eq k held) ks in
    sym (take-take (length held) (length (enter eq k held)) all more.0)
    ∙ ap (take (length held)) (enter_all-take eq (enter eq k held) ks)
    ∙ enter-take eq k held

pub enter_all_distinct : {K : Type 0} (eq : K → K → Bool) → IsEquivalence eq → (held ks : List K) → DistinctBy (Equal eq) held → DistinctBy (Equal eq) (enter_all eq held ks)
enter_all_distinct eq E held [] apart = apart
enter_all_distinct eq E held (k ∷ ks) apart =
    enter_all_distinct eq E (enter eq k held) ks (enter_distinct eq E k held apart)

-- where no two keys are equal, the place of a key is wherever one stands that is equal to it
pub place_of_equal : {K : Type 0} (eq : K → K → Bool) → IsEquivalence eq → (k : K) (ks : List K) (i : ℕ) (d : K) → DistinctBy (Equal eq) ks → i < length ks → eq k (get_or ks i d) ≡ true → place_of eq k ks ≡ i
place_of_equal eq E k ks i d apart l same =
    let p = place_of eq k ks in
    ⊎_elim
    (λ (sooner : p < i).
    let at : eq k (get_or ks p d) ≡ true = place_of_holds eq k ks d (omega arith) in
    absurd (apart p i d sooner l (sym (E.congr k (get_or ks p d) (get_or ks i d) at) ∙ same)))
    (λ (upto : i ≤ p). place_of_here eq k ks i d upto l same)
    (cases_lt p i)

-- what stands after a key does not move it
pub place_of_append : {K : Type 0} (eq : K → K → Bool) (k : K) (ks js : List K) → place_of eq k ks < length ks → place_of eq k (ks ++ js) ≡ place_of eq k ks
place_of_append eq k [] js = λ l. absurd (omega arith)
place_of_append eq k (x ∷ xs) js =
    elim (eq k x) as (λ b. cond b 0 (suc (place_of eq k xs)) < suc (length xs) → cond b 0 (suc (place_of eq k (xs ++ js))) ≡ cond b 0 (suc (place_of eq k xs))) [
      | true ↦ λ l. refl
      | false ↦ λ l. ap (λ n. suc n) (place_of_append eq k xs js (omega arith))
    ]

-- a key that is new to the first of two lists has its place in the second
pub place_of_append_new : {K : Type 0} (eq : K → K → Bool) (k : K) (ks js : List K) → length ks ≤ place_of eq k ks → place_of eq k (ks ++ js) ≡ length ks + place_of eq k js
place_of_append_new eq k [] js = λ l. omega arith
place_of_append_new eq k (x ∷ xs) js =
    elim (eq k x) as (λ b. suc (length xs) ≤ cond b 0 (suc (place_of eq k xs)) → cond b 0 (suc (place_of eq k (xs ++ js))) ≡ suc (length xs) + place_of eq k js) [
      | true ↦ λ l. absurd (omega arith)
      | false ↦ λ l. omega (arith, place_of_append_new eq k xs js (omega arith))
    ]

-- an entry leaves the places of the keys that were there,
pub place_of_enter : {K : Type 0} (eq : K → K → Bool) (j k : K) (ks : List K) → place_of eq j ks < length ks → place_of eq j (enter eq k ks) ≡ place_of eq j ks
place_of_enter eq j k ks l =
    enter_both eq k ks (λ r. place_of eq j r ≡ place_of eq j ks) (λ _. refl) (λ _. place_of_append eq j ks (k ∷ []) l)

-- and the key has the place that it was given
pub place_of_entered : {K : Type 0} (eq : K → K → Bool) → IsEquivalence eq → (k : K) (ks : List K) → place_of eq k (enter eq k ks) ≡ place_of eq k ks
place_of_entered eq E k ks =
    enter_both eq k ks (λ r. place_of eq k r ≡ place_of eq k ks) (λ _. refl)
    (λ e. omega (arith, place_of_append_new eq k ks (k ∷ []) (omega arith), cond-true {A = ℕ} (eq k k) 0 1 (E.refl k)))

pub enter-get_or : {K : Type 0} (eq : K → K → Bool) (k : K) (ks : List K) (i : ℕ) (d : K) → i < length ks → get_or (enter eq k ks) i d ≡ get_or ks i d
enter-get_or eq k ks i d l =
    enter_both eq k ks (λ r. get_or r i d ≡ get_or ks i d) (λ _. refl) (λ _. get_or_append_left ks (k ∷ []) d i l)
