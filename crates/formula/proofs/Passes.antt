-- What the passes over marks come to, a step on and at the end.
use Rattle.std.proofs.Common.{◌≡◌, ℕ, zero, suc, ◌+◌, ◌-◌, ◌<◌, ◌≤◌, Bool, true, false, cond, ◌&&◌, ◌||◌, List, [], ◌∷◌, ◌++◌, length, get_or, take, drop, min, replicate, sym, refl, ap, ◌∙◌, inl, inr, arith, rules}
use Rattle.std.proofs.lemmas.List.{append-nil, get_or_past, get_or-take, get_or_push, length_push, take_at, take-take, take-replicate, drop-replicate}
use Rattle.std.proofs.Math.Bool.{or-false}
use Rattle.std.proofs.lemmas.Bool.{cases_lt, cond-true}
use Rattle.formula.specs.declared.Node.{Node}
use Rattle.formula.specs.declared.Node.TheVariants.{True}
use Rattle.formula.specs.Items.{looks_back, back_below, items_at, items_below}
use Rattle.formula.specs.Resting.{operands, all_marked, spread, resting}

-- the nodes that the pass from the highest down has left are the first ones
abbrev pub Left : List Node → List Node → Type 0
Left nodes rest = rest ≡ take (length rest) nodes

module _ (nodes rest rest' : List Node) (n : Node) (left : Left nodes rest) (next : rest ≡ rest' ++ (n ∷ [])) where
  long : length rest ≡ suc (length rest')
  long = omega (arith, ap length next, length_push rest' n)

  pub still_left : Left nodes rest'
  still_left =
      sym (take_at rest' (n ∷ []) (length rest') refl)
      ∙ ap (take (length rest')) (sym next ∙ left)
      ∙ take-take (length rest') (length rest) nodes (omega (arith, long))

  last_is : n ≡ get_or nodes (length rest') True
  last_is =
      sym (get_or_push rest' n True (length rest') refl)
      ∙ ap (λ l. get_or l (length rest') True) (sym next ∙ left)
      ∙ get_or-take (length rest) nodes (length rest') True (omega (arith, long))

  step_is : (ms : List Bool) → spread nodes (length rest) ms ≡ spread nodes (length rest') (cond (get_or ms (length rest') false) (all_marked ms (operands n)) ms)
  step_is ms =
      ap (λ k. spread nodes k ms) long
      ∙ ap (λ m. spread nodes (length rest') (cond (get_or ms (length rest') false) (all_marked ms (operands m)) ms)) (sym last_is)

  -- node i is marked, and so are its operands
  pub spread_marked : (ms ms' : List Bool) → get_or ms (length rest') false ≡ true → ms' ≡ all_marked ms (operands n) → spread nodes (length rest') ms' ≡ spread nodes (length rest) ms
  spread_marked ms ms' here e =
      ap (spread nodes (length rest')) (e ∙ sym (cond-true (get_or ms (length rest') false) (all_marked ms (operands n)) ms here)) ∙ sym (step_is ms)

-- both passes, in the front of a table of 128
pub rested : (nodes : List Node) (roots : List ℕ) (ms last : List Bool) (k : ℕ) → length nodes ≤ 128 → k ≡ length nodes → ms ≡ all_marked (take k (replicate 128 false)) roots → last ≡ spread nodes (length nodes) ms → last ++ drop k (replicate 128 false) ≡ resting nodes roots ++ replicate (128 - length nodes) false
rested nodes roots ms last k l k-is ms-is last-is =
    let front : take k (replicate 128 false) ≡ replicate (length nodes) false =
    take-replicate k 128 false (omega arith) ∙ ap (λ (n : ℕ). replicate n false) k-is in
    let back : drop k (replicate 128 false) ≡ replicate (128 - length nodes) false =
    drop-replicate k 128 false ∙ ap (λ (n : ℕ). replicate (128 - n) false) k-is in
    let first : last ≡ resting nodes roots =
    last-is ∙ ap (spread nodes (length nodes)) (ms-is ∙ ap (λ m. all_marked m roots) front) in
    ap (λ m. m ++ drop k (replicate 128 false)) first ∙ ap (λ m. resting nodes roots ++ m) back

-- a node more is looked through
pub back_more : (nodes : List Node) (used back back' : List Bool) (i j : ℕ) (n : Node) → j ≡ i + 1 → n ≡ get_or nodes i True → true ≡ get_or used i false → length back ≡ 128 → ((k : ℕ) → k < 128 → get_or back k false ≡ back_below nodes used i k)
    → ((k : ℕ) → k < length back → get_or back' k false ≡ (get_or back k false || looks_back k n)) → (k : ℕ) → k < 128 → get_or back' k false ≡ back_below nodes used j k
back_more nodes used back back' i j n next n-is u-is long so_far told k m =
    let e : suc i ≡ j = omega arith in
    told k (omega arith)
    ∙ ap (λ b. b || looks_back k n) (so_far k m)
    ∙ ap (λ v. back_below nodes used i k || (v && looks_back k n)) u-is
    ∙ ap (λ d. back_below nodes used i k || (get_or used i false && looks_back k d)) n-is
    ∙ ap (λ (j : ℕ). back_below nodes used j k) e

module _ (nodes : List Node) (used : List Bool) (n : ℕ) (past : length used ≤ n) where
  -- past the marks nothing is used
  back_past : (k i : ℕ) → n ≤ k → back_below nodes used n i ≡ back_below nodes used k i
  back_past zero i l = let e : n ≡ 0 = omega arith in ap (λ (m : ℕ). back_below nodes used m i) e
  back_past (suc k) i l =
      elim (cases_lt n (suc k)) [
        | inl low ↦
            let no : get_or used k false ≡ false = get_or_past used k false (omega arith) in
            sym (ap (λ u. back_below nodes used k i || (u && looks_back i (get_or nodes k True))) no ∙ or-false (back_below nodes used k i) ∙ sym (back_past k i (omega arith)))
        | inr high ↦ let e : n ≡ suc k = omega arith in ap (λ (m : ℕ). back_below nodes used m i) e
      ]

  items_none : (k : ℕ) → n ≤ k → items_at nodes used k ≡ []
  items_none k l = search (rules, get_or_past)

  pub items_past : (k : ℕ) → n ≤ k → items_below nodes used n ≡ items_below nodes used k
  items_past zero l = let e : n ≡ 0 = omega arith in ap (items_below nodes used) e
  items_past (suc k) l =
      elim (cases_lt n (suc k)) [
        | inl low ↦ sym (ap (λ xs. items_below nodes used k ++ xs) (items_none k (omega arith)) ∙ append-nil (items_below nodes used k) ∙ sym (items_past k (omega arith)))
        | inr high ↦ let e : n ≡ suc k = omega arith in ap (items_below nodes used) e
      ]

-- the pass ends with the nodes or with the marks
pub back_all : (nodes : List Node) (used : List Bool) (n k : ℕ) → n ≡ min (length nodes) (length used) → back_below nodes used n k ≡ back_below nodes used (length nodes) k
back_all nodes used n k e =
    elim (cases_lt (length used) (length nodes)) [
      | inl short ↦ back_past nodes used n (omega arith) (length nodes) k (omega arith)
      | inr all ↦ let same : n ≡ length nodes = omega arith in ap (λ (m : ℕ). back_below nodes used m k) same
    ]
