-- Two lists that are both what is kept of one list agree, place by place.
use Rattle.std.proofs.Common.{◌≡◌, ℕ, zero, suc, ◌+◌, ◌<◌, ◌≤◌, List, [], ◌∷◌, length, get_or, take, sym, ◌∙◌, subst, ⊎_elim, arith}
use Rattle.std.specs.List.{Contains}
use Rattle.std.proofs.lemmas.List.Elements.{Contains-get_or, at_from_Contains}
use Rattle.std.proofs.lemmas.List.{get_or-take, length-take-le}
use Rattle.std.proofs.lemmas.Bool.{cases_lt}
use Rattle.register.specs.Keys.{KeptBy}
use Rattle.register.proofs.Sameness.{Sameness}

module _ {K : Type 0} (Same : K → K → Type 0) (is : Sameness Same) where
  -- of two keys, not each can have come before every place of one that is the same as the other
  never : (ks : List K) (x y d : K) → ((q : ℕ) → q < length ks → Same (get_or ks q d) x → Contains (take q ks) y) → ((q : ℕ) → q < length ks → Same (get_or ks q d) y → Contains (take q ks) x) → (m q : ℕ) → q < m → q < length ks → get_or ks q d ≡ x → ⊥
  never ks x y d f g zero q l in' e = absurd (omega arith)
  never ks x y d f g (suc m) q l in' e =
      let had = at_from_Contains (take q ks) y (f q in' (subst (Same (get_or ks q d)) e (is.itself (get_or ks q d)))) in
      let sooner : had.0 < q = omega (arith, had.1, length-take-le q ks (omega arith)) in
      never ks y x d g f m had.0 (omega arith) (omega arith) (sym (get_or-take q ks had.0 d sooner) ∙ had.2 d)

  -- two that are the same, of which each came by the time that the other did, are one
  one_first : (ks : List K) (x y d : K) → Same x y → ((q : ℕ) → q < length ks → Same (get_or ks q d) x → Contains (take (q + 1) ks) x) → ((q : ℕ) → q < length ks → Same (get_or ks q d) y → Contains (take (q + 1) ks) y) → (m q : ℕ) → q < m → q < length ks → get_or ks q d ≡ x → x ≡ y
  one_first ks x y d same f g zero q l in' e = absurd (omega arith)
  one_first ks x y d same f g (suc m) q l in' e =
      let had = at_from_Contains (take (q + 1) ks) y (g q in' (subst (λ z. Same z y) (sym e) same)) in
      let within : had.0 < q + 1 = omega (arith, had.1, length-take-le (q + 1) ks (omega arith)) in
      let at : get_or ks had.0 d ≡ y = sym (get_or-take (q + 1) ks had.0 d within) ∙ had.2 d in
      ⊎_elim
      (λ (sooner : had.0 < q). sym (one_first ks y x d (is.back x y same) g f m had.0 (omega arith) (omega arith) at))
      (λ (here : q ≤ had.0). let same' : had.0 ≡ q = omega arith in sym e ∙ subst (λ (i : ℕ). get_or ks i d ≡ y) same' at)
      (cases_lt had.0 q)

  -- what the one list holds the other holds
  held_both : (ks a b : List K) → KeptBy Same ks a → KeptBy Same ks b → (n : ℕ) (d : K) → n < length a → Contains b (get_or a n d)
  held_both ks a b ka kb n d l =
      let x = get_or a n d in
      let x-came = ka.only x (Contains-get_or a n d l) in
      let had = kb.every x x-came in
      let came = at_from_Contains ks x x-came in
      let in_b = at_from_Contains b had.0 had.1 in
      let at : get_or b in_b.0 d ≡ had.0 = in_b.2 d in
      let first_b : (q : ℕ) → q < length ks → Same (get_or ks q d) had.0 → Contains (take (q + 1) ks) had.0 =
      λ q m s. subst (Contains (take (q + 1) ks)) at (kb.first in_b.0 q d in_b.1 m (subst (Same (get_or ks q d)) (sym at) s)) in
      let one : x ≡ had.0 = one_first ks x had.0 d had.2 (λ q m s. ka.first n q d l m s) first_b (came.0 + 1) came.0 (omega arith) came.1 (came.2 d) in
      subst (Contains b) (sym one) had.1

  -- where a and b agree below n, a's key at n stands in b at n or later
  later : (ks a b : List K) → KeptBy Same ks a → KeptBy Same ks b → (n : ℕ) (d : K) → n < length a → ((i : ℕ) → i < n → get_or a i d ≡ get_or b i d) → (j : ℕ) × (n ≤ j) × (j < length b) × (get_or b j d ≡ get_or a n d)
  later ks a b ka kb n d l same =
      let had = at_from_Contains b (get_or a n d) (held_both ks a b ka kb n d l) in
      ⊎_elim
      (λ (sooner : had.0 < n).
      absurd (ka.once had.0 n d sooner l (subst (Same (get_or a had.0 d)) (same had.0 sooner ∙ had.2 d) (is.itself (get_or a had.0 d)))))
      (λ (le : n ≤ had.0). (had.0, le, had.1, had.2 d))
      (cases_lt had.0 n)

  next : (ks a b : List K) → KeptBy Same ks a → KeptBy Same ks b → (n : ℕ) (d : K) → n < length a → ((i : ℕ) → i < n → get_or a i d ≡ get_or b i d) → (n < length b) × (get_or a n d ≡ get_or b n d)
  next ks a b ka kb n d l same =
      let in_b = later ks a b ka kb n d l same in
      let l' : n < length b = omega (arith, in_b.1, in_b.2) in
      let in-a = later ks b a kb ka n d l' (λ i h. sym (same i h)) in (
        l',
        ⊎_elim
            (λ (after : n < in_b.0).
            ⊎_elim
            (λ (after' : n < in-a.0).
            let had = at_from_Contains ks (get_or a n d) (ka.only (get_or a n d) (Contains-get_or a n d l)) in
            absurd
            (never ks (get_or a n d) (get_or b n d) d
            (λ q q-in e. kb.order n in_b.0 q d after in_b.2 q-in (subst (Same (get_or ks q d)) (sym in_b.3) e))
            (λ q q-in e. ka.order n in-a.0 q d after' in-a.2 q-in (subst (Same (get_or ks q d)) (sym in-a.3) e))
            (had.0 + 1) had.0 (omega arith) had.1 (had.2 d)))
            (λ (here : in-a.0 ≤ n).
            let at : in-a.0 ≡ n = omega (arith, in-a.1) in
            subst (λ (j : ℕ). get_or a j d ≡ get_or b n d) at in-a.3)
            (cases_lt n in-a.0))
            (λ (here : in_b.0 ≤ n).
            let at : in_b.0 ≡ n = omega (arith, in_b.1) in
            sym (subst (λ (j : ℕ). get_or b j d ≡ get_or a n d) at in_b.3))
            (cases_lt n in_b.0),
      )

  pub agree : (ks a b : List K) → KeptBy Same ks a → KeptBy Same ks b → (d : K) (n : ℕ) → n ≤ length a → (n ≤ length b) × ((i : ℕ) → i < n → get_or a i d ≡ get_or b i d)
  agree ks a b ka kb d zero l = (omega arith, λ i h. absurd (omega arith))
  agree ks a b ka kb d (suc n) l =
      let below = agree ks a b ka kb d n (omega arith) in
      let here = next ks a b ka kb n d (omega arith) below.1 in (
        here.0,
        λ i h.
            ⊎_elim (below.1 i)
            (λ (le : n ≤ i). let at : n ≡ i = omega arith in subst (λ (j : ℕ). get_or a j d ≡ get_or b j d) at here.1)
            (cases_lt i n),
      )

  pub no_longer : (ks a b : List K) → KeptBy Same ks a → KeptBy Same ks b → length a ≤ length b
  no_longer ks [] b ka kb = omega arith
  no_longer ks (x ∷ xs) b ka kb = (agree ks (x ∷ xs) b ka kb x (length (x ∷ xs)) (omega arith)).0
