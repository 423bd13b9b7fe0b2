-- The keys of a list are entered into a table one after another: once all are entered they stand first in it, and a key that is refused shows that they do not fit.
use Rattle.std.proofs.Common.{◌≡◌, ℕ, ◌+◌, ◌-◌, ◌<◌, ◌≤◌, Bool, List, [], ◌∷◌, ◌++◌, length, get_or, take, drop, Some, None, Option, sym, ap, ◌∙◌, subst, arith}
use Rattle.std.specs.Cmp.{IsEquivalence}
use Rattle.register.specs.Keys.{Equal, KeptBy, place_of, enter, enter_all, Counted}
use Rattle.register.proofs.Keys.{enter_new, enter-length, enter_all-append, enter_all_more, enter_all-length, enter_all-take}
use Rattle.register.proofs.Order.{enter_all_kept}
use Rattle.std.proofs.lemmas.List.{take_all, take-append-drop, length-take-le, length_push, drop-drop}

pub counted : {K : Type 0} (eq : K → K → Bool) → IsEquivalence eq → (ks start before xs : List K) (n i m : ℕ) → n ≤ length xs → length ks ≤ i → take n xs ≡ enter_all eq [] (take i ks) → drop n xs ≡ drop n start → start ≡ before → m ≡ length (take n xs) → (x : List K) → x ≡ xs → Counted eq ks before x (Some m)
counted eq E ks start before xs n i m fits end held rest start_is len x e =
    let all : take n xs ≡ enter_all eq [] ks = held ∙ ap (enter_all eq []) (take_all i ks end) in
    let m-is : n ≡ m = sym (len ∙ length-take-le n xs fits) in
    let first : take m x ≡ enter_all eq [] ks =
    ap (take m) e ∙ subst (λ (j : ℕ). take j xs ≡ enter_all eq [] ks) m-is all in (
      subst (KeptBy (Equal eq) ks) (sym first) (enter_all_kept eq E ks),
      first,
      len ∙ ap length all,
      ap (drop m) e ∙ subst (λ (j : ℕ). drop j xs ≡ drop j before) m-is (rest ∙ ap (drop n) start_is),
    )

-- what two tables share from n on they share further on
pub drop_further : {K : Type 0} (xs ys : List K) (n m : ℕ) → n ≤ m → drop n xs ≡ drop n ys → drop m xs ≡ drop m ys
drop_further xs ys n m l e =
    let m-is : n + (m - n) ≡ m = omega arith in
    subst (λ (j : ℕ). drop j xs ≡ drop j ys) m-is
    (sym (drop-drop (m - n) n xs) ∙ ap (drop (m - n)) e ∙ drop-drop (m - n) n ys)

-- one key more
pub stepped : {K : Type 0} (eq : K → K → Bool) (ks before xs ys : List K) (n m i : ℕ) (k : K) → n ≤ length xs → m ≤ length ys → i < length ks → k ≡ get_or ks i k → take n xs ≡ enter_all eq [] (take i ks) → take m ys ≡ enter eq k (take n xs) → drop n xs ≡ drop n before → drop m ys ≡ drop m xs → (take m ys ≡ enter_all eq [] (take (i + 1) ks)) × (drop m ys ≡ drop m before)
stepped eq ks before xs ys n m i k fits fits' l k-is held entered rest rest' =
    let more : n ≤ m =
    omega (arith, ap length entered, length-take-le n xs fits, length-take-le m ys fits', enter-length eq k (take n xs)) in (
      entered ∙ ap (enter eq k) held ∙ ap (λ y. enter eq y (enter_all eq [] (take i ks))) k-is ∙ sym (enter_all_more eq [] ks i k l),
      rest' ∙ drop_further xs before n m more rest,
    )

-- the keys from i on, of which the first is new, come to more than are held
pub overfull : {K : Type 0} (eq : K → K → Bool) (ks held : List K) (i : ℕ) (k : K) → i < length ks → held ≡ enter_all eq [] (take i ks) → place_of eq (get_or ks i k) held ≡ length held → (length held < length (enter_all eq [] ks)) × (take (length held) (enter_all eq [] ks) ≡ held)
overfull eq ks held i k l e new =
    let all : enter_all eq held (drop i ks) ≡ enter_all eq [] ks =
    ap (λ h. enter_all eq h (drop i ks)) e
    ∙ sym (enter_all-append eq [] (take i ks) (drop i ks))
    ∙ ap (enter_all eq []) (take-append-drop i ks) in
    let more : enter_all eq (enter_all eq [] (take (i + 1) ks)) (drop (i + 1) ks) ≡ enter_all eq [] ks =
    sym (enter_all-append eq [] (take (i + 1) ks) (drop (i + 1) ks))
    ∙ ap (enter_all eq []) (take-append-drop (i + 1) ks) in
    let next : enter_all eq [] (take (i + 1) ks) ≡ held ++ (get_or ks i k ∷ []) =
    enter_all_more eq [] ks i k l
    ∙ ap (enter eq (get_or ks i k)) (sym e)
    ∙ enter_new eq (get_or ks i k) held (omega arith) in (
      omega (arith, ap length more, ap length next, length_push held (get_or ks i k), enter_all-length eq (enter_all eq [] (take (i + 1) ks)) (drop (i + 1) ks)),
      ap (take (length held)) (sym all) ∙ enter_all-take eq held (drop i ks),
    )

-- a table of which each element is a key
full : {K : Type 0} (held xs : List K) (n : ℕ) → n ≤ length xs → take n xs ≡ held → length held ≡ length xs → xs ≡ held
full held xs n fits e l = sym (take_all n xs (omega (arith, ap length e, length-take-le n xs fits))) ∙ e

pub refused : {K : Type 0} (eq : K → K → Bool) (ks start before held ys xs : List K) (n i : ℕ) (k : K) → i < length ks → k ≡ get_or ks i k → held ≡ enter_all eq [] (take i ks) → (place_of eq k held ≡ length held) × (length held ≡ length ys) × (take n xs ≡ held) → n ≤ length xs → length xs ≡ length ys → length ys ≡ length start → start ≡ before → (x : List K) → x ≡ xs → (r : Option ℕ) → r ≡ None → Counted eq ks before x r
refused eq ks start before held ys xs n i k l k-is held-is (new, all, e) fits room room' start_is x x-is r r-is =
    let over = overfull eq ks held i k l held-is (subst (λ y. place_of eq y held ≡ length held) k-is new) in
    let size : length held ≡ length before = all ∙ room' ∙ ap length start_is in
    subst (Counted eq ks before x) (sym r-is) (
      omega (arith, over.0),
      x-is ∙ full held xs n fits e (all ∙ sym room) ∙ sym over.1 ∙ ap (λ j. take j (enter_all eq [] ks)) size,
    )
