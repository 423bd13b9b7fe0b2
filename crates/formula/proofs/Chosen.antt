-- The items that are kept: which they are, and that they rise.
use Rattle.std.proofs.Common.{◌≡◌, ℕ, zero, suc, ◌+◌, ◌-◌, ◌*◌, ◌<◌, ◌≤◌, Bool, true, false, cond, ◌&&◌, ◌||◌, ◌⊎◌, List, [], ◌∷◌, ◌++◌, length, get_or, sym, refl, ap, ◌∙◌, subst, inl, inr, arith, rules}
use Rattle.std.specs.List.{Contains}
use Rattle.std.proofs.lemmas.List.{length-append, get_or_append_left, get_or-append_right}
use Rattle.std.proofs.lemmas.List.Elements.{Contains-get_or, Contains-append_left, Contains-append_right, Contains-append_cases}
use Rattle.std.proofs.lemmas.Bool.{both_ways, cases_lt, and_parts, and_from, or_cases, or_left, or_right, eqb-true, eq-eqb}
use Rattle.formula.specs.declared.Node.{Node}
use Rattle.formula.specs.declared.Node.TheVariants.{Label, True, Not, And, Or, Previous, Since, Always, Once}
use Rattle.formula.specs.declared.Item.{Item}
use Rattle.formula.specs.declared.Item.TheVariants.{Held, Failed}
use Rattle.formula.specs.Items.{lasting, is_always, looks_back, back_below, items_at, items_below, kept_items, rank, Remembered, Selected}

-- one item, where the test says so
has_one : (b : Bool) (x y : Item) → Contains (cond b (x ∷ []) []) y → (b ≡ true) × (x ≡ y)
has_one true x y (zero, l, at) = (refl, at)
has_one true x y (suc k, l, at) = absurd (omega arith)
has_one false x y (k, l, at) = absurd (omega arith)

one_has : (b : Bool) (x : Item) → b ≡ true → Contains (cond b (x ∷ []) []) x
one_has true x e = (0, omega arith, refl)
one_has false x e = absurd (both_ways false refl e)

held_is : (i j : ℕ) → Held i ≡ Held j → i ≡ j
held_is i j e = cc

failed_is : (i j : ℕ) → Failed i ≡ Failed j → i ≡ j
failed_is i j e = cc

never : (i j : ℕ) → Held i ≡ Failed j → ⊥
never i j e = let z : ◌≡◌ {A = ℕ} 0 1 = cc in omega arith

back_only : (i : ℕ) (n : Node) → looks_back i n ≡ true → n ≡ Previous i
back_only i (Label p) h = absurd (both_ways false refl h)
back_only i True h = absurd (both_ways false refl h)
back_only i (Not a) h = absurd (both_ways false refl h)
back_only i (And a b) h = absurd (both_ways false refl h)
back_only i (Or a b) h = absurd (both_ways false refl h)
back_only i (Previous a) h = ap (λ j. Previous j) (eqb-true a i h)
back_only i (Since a b) h = absurd (both_ways false refl h)
back_only i (Always a) h = absurd (both_ways false refl h)
back_only i (Once a) h = absurd (both_ways false refl h)

module _ (nodes : List Node) (used : List Bool) where
  back_from : (k i : ℕ) → back_below nodes used k i ≡ true → (j : ℕ) × (j < k) × (get_or used j false ≡ true) × (get_or nodes j True ≡ Previous i)
  back_from zero i h = absurd (both_ways false refl h)
  back_from (suc k) i h =
      elim (or_cases (back_below nodes used k i) (get_or used k false && looks_back i (get_or nodes k True)) h) [
        | inl low ↦ let r = back_from k i low in (r.0, omega (arith, r.1), r.2, r.3)
        | inr here ↦ let p = and_parts (get_or used k false) (looks_back i (get_or nodes k True)) here in (k, omega arith, p.0, back_only i (get_or nodes k True) p.1)
      ]

  back_to : (k i j : ℕ) → j < k → get_or used j false ≡ true → get_or nodes j True ≡ Previous i → back_below nodes used k i ≡ true
  back_to zero i j l u e = absurd (omega arith)
  back_to (suc k) i j l u e =
      elim (cases_lt j k) [
        | inl low ↦ or_left (back_below nodes used k i) (get_or used k false && looks_back i (get_or nodes k True)) (back_to k i j low u e)
        | inr past ↦
            let at : j ≡ k = omega arith in
            let here : (get_or used j false && looks_back i (get_or nodes j True)) ≡ true =
            and_from (get_or used j false) (looks_back i (get_or nodes j True)) u (ap (looks_back i) e ∙ eq-eqb i i refl) in
            or_right (back_below nodes used k i) (get_or used k false && looks_back i (get_or nodes k True))
            (subst (λ (m : ℕ). (get_or used m false && looks_back i (get_or nodes m True)) ≡ true) at here)
      ]

  -- the two tests of a node
  held_test : ℕ → Bool
  held_test i = get_or used i false && (lasting (get_or nodes i True) || back_below nodes used (length nodes) i)

  failed_test : ℕ → Bool
  failed_test i = get_or used i false && is_always (get_or nodes i True)

  items_at_is : (i : ℕ) → items_at nodes used i ≡ cond (held_test i) (Held i ∷ []) [] ++ cond (failed_test i) (Failed i ∷ []) []
  unfolding held_test failed_test
  items_at_is i = refl

  held_from : (i : ℕ) → held_test i ≡ true → (get_or used i false ≡ true) × Remembered nodes used i
  unfolding held_test
  held_from i h =
      let p = and_parts (get_or used i false) (lasting (get_or nodes i True) || back_below nodes used (length nodes) i) h in (
        p.0,
        elim (or_cases (lasting (get_or nodes i True)) (back_below nodes used (length nodes) i) p.1) [
          | inl e ↦ inl e
          | inr e ↦ inr (back_from (length nodes) i e)
        ],
      )

  held_to : (i : ℕ) → get_or used i false ≡ true → Remembered nodes used i → held_test i ≡ true
  unfolding held_test
  held_to i u (inl e) =
      and_from (get_or used i false) (lasting (get_or nodes i True) || back_below nodes used (length nodes) i) u
      (or_left (lasting (get_or nodes i True)) (back_below nodes used (length nodes) i) e)
  held_to i u (inr (j, l, v, e)) =
      and_from (get_or used i false) (lasting (get_or nodes i True) || back_below nodes used (length nodes) i) u
      (or_right (lasting (get_or nodes i True)) (back_below nodes used (length nodes) i) (back_to (length nodes) i j l v e))

  failed_from : (i : ℕ) → failed_test i ≡ true → (get_or used i false ≡ true) × (is_always (get_or nodes i True) ≡ true)
  unfolding failed_test
  failed_from i h = search rules

  failed_to : (i : ℕ) → get_or used i false ≡ true → is_always (get_or nodes i True) ≡ true → failed_test i ≡ true
  unfolding failed_test
  failed_to i u e = search rules

  -- an item of node k
  at_cases : (k : ℕ) (x : Item) → Contains (items_at nodes used k) x → ((held_test k ≡ true) × (Held k ≡ x)) ⊎ ((failed_test k ≡ true) × (Failed k ≡ x))
  at_cases k x had =
      elim (Contains-append_cases (cond (held_test k) (Held k ∷ []) []) (cond (failed_test k) (Failed k ∷ []) []) x (subst (λ l. Contains l x) (items_at_is k) had)) [
        | inl h ↦ inl (has_one (held_test k) (Held k) x h)
        | inr f ↦ inr (has_one (failed_test k) (Failed k) x f)
      ]

  at_held : (k : ℕ) → held_test k ≡ true → Contains (items_at nodes used k) (Held k)
  at_held k h =
      subst (λ l. Contains l (Held k)) (sym (items_at_is k))
      (Contains-append_left (cond (held_test k) (Held k ∷ []) []) (cond (failed_test k) (Failed k ∷ []) []) (Held k) (one_has (held_test k) (Held k) h))

  at_failed : (k : ℕ) → failed_test k ≡ true → Contains (items_at nodes used k) (Failed k)
  at_failed k h =
      subst (λ l. Contains l (Failed k)) (sym (items_at_is k))
      (Contains-append_right (cond (held_test k) (Held k ∷ []) []) (cond (failed_test k) (Failed k ∷ []) []) (Failed k) (one_has (failed_test k) (Failed k) h))

  -- an item of a node below k
  below_cases : (k : ℕ) (x : Item) → Contains (items_below nodes used k) x → (i : ℕ) × (i < k) × Contains (items_at nodes used i) x
  below_cases zero x (j, l, at) = absurd (omega arith)
  below_cases (suc k) x had =
      elim (Contains-append_cases (items_below nodes used k) (items_at nodes used k) x had) [
        | inl low ↦ let r = below_cases k x low in (r.0, omega (arith, r.1), r.2)
        | inr here ↦ (k, omega arith, here)
      ]

  below_has : (k i : ℕ) (x : Item) → i < k → Contains (items_at nodes used i) x → Contains (items_below nodes used k) x
  below_has zero i x l had = absurd (omega arith)
  below_has (suc k) i x l had =
      elim (cases_lt i k) [
        | inl low ↦ Contains-append_left (items_below nodes used k) (items_at nodes used k) x (below_has k i x low had)
        | inr past ↦
            let at : i ≡ k = omega arith in
            Contains-append_right (items_below nodes used k) (items_at nodes used k) x (subst (λ (j : ℕ). Contains (items_at nodes used j) x) at had)
      ]

  held_only_there : (i : ℕ) → Contains (kept_items nodes used) (Held i) → (i < length nodes) × (get_or used i false ≡ true) × Remembered nodes used i
  held_only_there i had =
      let r = below_cases (length nodes) (Held i) had in
      elim (at_cases r.0 (Held i) r.2) [
        | inl (h, e) ↦
            let at : r.0 ≡ i = held_is r.0 i e in
            let p = held_from i (subst (λ (j : ℕ). held_test j ≡ true) at h) in
            (omega (arith, r.1), p.0, p.1)
        | inr (f, e) ↦ absurd (never i r.0 (sym e))
      ]

  failed_only_there : (i : ℕ) → Contains (kept_items nodes used) (Failed i) → (i < length nodes) × (get_or used i false ≡ true) × (is_always (get_or nodes i True) ≡ true)
  failed_only_there i had =
      let r = below_cases (length nodes) (Failed i) had in
      elim (at_cases r.0 (Failed i) r.2) [
        | inl (h, e) ↦ absurd (never r.0 i e)
        | inr (f, e) ↦
            let at : r.0 ≡ i = failed_is r.0 i e in
            let p = failed_from i (subst (λ (j : ℕ). failed_test j ≡ true) at f) in
            (omega (arith, r.1), p.0, p.1)
      ]

  -- the order

  Rising : List Item → Type 0
  Rising xs = (j k : ℕ) (d : Item) → j < k → k < length xs → rank (get_or xs j d) < rank (get_or xs k d)

  rising-append : (xs ys : List Item) → Rising xs → Rising ys → ((x y : Item) → Contains xs x → Contains ys y → rank x < rank y) → Rising (xs ++ ys)
  unfolding Rising
  rising-append xs ys up up' across j k d l m =
      elim (cases_lt k (length xs)) [
        | inl in' ↦
            let f = get_or_append_left xs ys d j (omega arith) in
            let g = get_or_append_left xs ys d k in' in
            omega (arith, ap rank f, ap rank g, up j k d l in')
        | inr past ↦
            let g = get_or-append_right xs ys (length xs) k d refl past in
            let k-in : k - length xs < length ys = omega (arith, length-append xs ys) in
            elim (cases_lt j (length xs)) [
              | inl in' ↦
                  let f = get_or_append_left xs ys d j in' in
                  omega (arith, ap rank f, ap rank g, across (get_or xs j d) (get_or ys (k - length xs) d) (Contains-get_or xs j d in') (Contains-get_or ys (k - length xs) d k-in))
              | inr past' ↦
                  let f = get_or-append_right xs ys (length xs) j d refl past' in
                  let less : j - length xs < k - length xs = omega arith in
                  omega (arith, ap rank f, ap rank g, up' (j - length xs) (k - length xs) d less k-in)
            ]
      ]

  rising_one : (b : Bool) (x : Item) → Rising (cond b (x ∷ []) [])
  unfolding Rising
  rising_one true x j k d l m = absurd (omega arith)
  rising_one false x j k d l m = absurd (omega arith)

  rank_at : (k : ℕ) (x : Item) → Contains (items_at nodes used k) x → (2 * k ≤ rank x) × (rank x < 2 * (k + 1))
  rank_at k x had =
      elim (at_cases k x had) [
        | inl (h, e) ↦ (omega (arith, ap rank e), omega (arith, ap rank e))
        | inr (f, e) ↦ (omega (arith, ap rank e), omega (arith, ap rank e))
      ]

  rising_at : (k : ℕ) → Rising (items_at nodes used k)
  rising_at k =
      subst Rising (sym (items_at_is k))
      (rising-append (cond (held_test k) (Held k ∷ []) []) (cond (failed_test k) (Failed k ∷ []) [])
      (rising_one (held_test k) (Held k)) (rising_one (failed_test k) (Failed k))
      (λ x y hx hy.
      omega (arith, ap rank (has_one (held_test k) (Held k) x hx).1, ap rank (has_one (failed_test k) (Failed k) y hy).1)))

  rising_below : (k : ℕ) → Rising (items_below nodes used k)
  unfolding Rising
  rising_below zero = λ j k d l m. absurd (omega arith)
  rising_below (suc k) =
      rising-append (items_below nodes used k) (items_at nodes used k) (rising_below k) (rising_at k)
      (λ x y hx hy.
      let r = below_cases k x hx in
      omega (arith, r.1, (rank_at r.0 x r.2).1, (rank_at k y hy).0))

  pub selected : Selected nodes used (kept_items nodes used)
  unfolding Rising
  selected = record {
    held_kept = λ i l u r. below_has (length nodes) i (Held i) l (at_held i (held_to i u r));
    held_only = held_only_there;
    failed_kept = λ i l u e. below_has (length nodes) i (Failed i) l (at_failed i (failed_to i u e));
    failed_only = failed_only_there;
    rising = rising_below (length nodes);
  }
