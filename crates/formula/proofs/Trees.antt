-- The trees of a list of nodes: each is the tree of its node over all of them, where operands number earlier nodes.
use Rattle.std.proofs.Common.{◌≡◌, ℕ, zero, suc, ◌+◌, ◌<◌, ◌≤◌, true, List, [], ◌∷◌, ◌++◌, length, get_or, sym, refl, ◌∙◌, subst, arith, rules}
use Rattle.std.proofs.lemmas.List.{length_push, get_or_append_left, get_or_push}
use Rattle.std.proofs.lemmas.Bool.{and_parts, and_from, ltb-true, lt-ltb}
use Rattle.formula.specs.declared.Node.{Node}
use Rattle.formula.specs.declared.Node.TheVariants.{Label, True, Not, And, Or, Previous, Since, Always, Once}
use Rattle.formula.specs.Formulas.{Formula, truth, tree_of, formulas_from, formulas, operands_below, earlier_from, earlier}

-- the tree of a node depends on the trees of its operands alone
pub tree_of_same : (ts us : List Formula) (k : ℕ) (n : Node) → operands_below k n ≡ true → ((i : ℕ) → i < k → get_or us i truth ≡ get_or ts i truth) → tree_of us n ≡ tree_of ts n
tree_of_same ts us k (Label p) h same = refl
tree_of_same ts us k True h same = refl
tree_of_same ts us k (Not a) h same = let e = same a (ltb-true a k h) in cc
tree_of_same ts us k (And a b) h same = search rules
tree_of_same ts us k (Or a b) h same = search rules
tree_of_same ts us k (Previous a) h same = let e = same a (ltb-true a k h) in cc
tree_of_same ts us k (Since a b) h same = search rules
tree_of_same ts us k (Always a) h same = let e = same a (ltb-true a k h) in cc
tree_of_same ts us k (Once a) h same = let e = same a (ltb-true a k h) in cc

pub formulas_from-append : (ts : List Formula) (ns ms : List Node) → formulas_from ts (ns ++ ms) ≡ formulas_from (formulas_from ts ns) ms
formulas_from-append ts [] ms = refl
formulas_from-append ts (n ∷ ns) ms = formulas_from-append (ts ++ (tree_of ts n ∷ [])) ns ms

-- one node more
pub formulas-push : (ns : List Node) (n : Node) → formulas (ns ++ (n ∷ [])) ≡ formulas ns ++ (tree_of (formulas ns) n ∷ [])
formulas-push ns n = formulas_from-append [] ns (n ∷ [])

pub length-formulas_from : (ts : List Formula) (ns : List Node) → length (formulas_from ts ns) ≡ length ts + length ns
length-formulas_from ts [] = omega arith
length-formulas_from ts (n ∷ ns) =
    omega (arith, length-formulas_from (ts ++ (tree_of ts n ∷ [])) ns, length_push ts (tree_of ts n))

pub length-formulas : (ns : List Node) → length (formulas ns) ≡ length ns
length-formulas ns = omega (arith, length-formulas_from [] ns)

-- the trees that were there stay
pub formulas_from_front : (ts : List Formula) (ns : List Node) (i : ℕ) (d : Formula) → i < length ts → get_or (formulas_from ts ns) i d ≡ get_or ts i d
formulas_from_front ts [] i d l = refl
formulas_from_front ts (n ∷ ns) i d l =
    formulas_from_front (ts ++ (tree_of ts n ∷ [])) ns i d (omega (arith, length_push ts (tree_of ts n)))
    ∙ get_or_append_left ts (tree_of ts n ∷ []) d i l

pub operands_below_more : (k m : ℕ) (n : Node) → k ≤ m → operands_below k n ≡ true → operands_below m n ≡ true
operands_below_more k m (Label p) l h = refl
operands_below_more k m True l h = refl
operands_below_more k m (Not a) l h = lt-ltb a m (omega (arith, ltb-true a k h))
operands_below_more k m (And a b) l h = search rules
operands_below_more k m (Or a b) l h = search rules
operands_below_more k m (Previous a) l h = lt-ltb a m (omega (arith, ltb-true a k h))
operands_below_more k m (Since a b) l h = search rules
operands_below_more k m (Always a) l h = lt-ltb a m (omega (arith, ltb-true a k h))
operands_below_more k m (Once a) l h = lt-ltb a m (omega (arith, ltb-true a k h))

pub earlier_from_at : (k : ℕ) (ns : List Node) (i : ℕ) → earlier_from k ns ≡ true → i < length ns → operands_below (k + i) (get_or ns i True) ≡ true
earlier_from_at k [] i h l = absurd (omega arith)
earlier_from_at k (n ∷ ns) zero h l = search rules
earlier_from_at k (n ∷ ns) (suc i) h l =
    let e : suc k + i ≡ k + suc i = omega arith in
    subst (λ (j : ℕ). operands_below j (get_or ns i True) ≡ true) e
    (earlier_from_at (suc k) ns i (and_parts (operands_below k n) (earlier_from (suc k) ns) h).1 (omega arith))

pub earlier_at : (ns : List Node) (i : ℕ) → earlier ns ≡ true → i < length ns → operands_below i (get_or ns i True) ≡ true
earlier_at ns i h l =
    let e : 0 + i ≡ i = omega arith in
    subst (λ (j : ℕ). operands_below j (get_or ns i True) ≡ true) e (earlier_from_at 0 ns i h l)

pub earlier_from-push : (k : ℕ) (ns : List Node) (n : Node) → earlier_from k ns ≡ true → operands_below (k + length ns) n ≡ true → earlier_from k (ns ++ (n ∷ [])) ≡ true
earlier_from-push k [] n h b = search rules
earlier_from-push k (m ∷ ns) n h b =
    let p = and_parts (operands_below k m) (earlier_from (suc k) ns) h in
    let e : k + suc (length ns) ≡ suc k + length ns = omega arith in
    and_from (operands_below k m) (earlier_from (suc k) (ns ++ (n ∷ []))) p.0
    (earlier_from-push (suc k) ns n p.1 (subst (λ (j : ℕ). operands_below j n ≡ true) e b))

pub earlier-push : (ns : List Node) (n : Node) → earlier ns ≡ true → operands_below (length ns) n ≡ true → earlier (ns ++ (n ∷ [])) ≡ true
earlier-push ns n h b =
    let e : length ns ≡ 0 + length ns = omega arith in
    earlier_from-push 0 ns n h (subst (λ (j : ℕ). operands_below j n ≡ true) e b)

-- each tree is that of its node over all the trees
pub formulas_from_at : (ts : List Formula) (ns : List Node) (i : ℕ) → earlier_from (length ts) ns ≡ true → i < length ns → get_or (formulas_from ts ns) (length ts + i) truth ≡ tree_of (formulas_from ts ns) (get_or ns i True)
formulas_from_at ts [] i h l = absurd (omega arith)
formulas_from_at ts (n ∷ ns) zero h l =
    let more = ts ++ (tree_of ts n ∷ []) in
    let p = and_parts (operands_below (length ts) n) (earlier_from (suc (length ts)) ns) h in
    let at : length ts ≡ length ts + 0 = omega arith in
    let first : get_or (formulas_from more ns) (length ts + 0) truth ≡ tree_of ts n =
    formulas_from_front more ns (length ts + 0) truth (omega (arith, length_push ts (tree_of ts n)))
    ∙ get_or_push ts (tree_of ts n) truth (length ts + 0) at in
    first
    ∙ sym (tree_of_same ts (formulas_from more ns) (length ts) n p.0
    (λ j m. formulas_from_front more ns j truth (omega (arith, length_push ts (tree_of ts n))) ∙ get_or_append_left ts (tree_of ts n ∷ []) truth j m))
formulas_from_at ts (n ∷ ns) (suc i) h l =
    let more = ts ++ (tree_of ts n ∷ []) in
    let p = and_parts (operands_below (length ts) n) (earlier_from (suc (length ts)) ns) h in
    let long : suc (length ts) ≡ length more = omega (arith, length_push ts (tree_of ts n)) in
    let at : length more + i ≡ length ts + suc i = omega arith in
    subst (λ (j : ℕ). get_or (formulas_from more ns) j truth ≡ tree_of (formulas_from more ns) (get_or ns i True)) at
    (formulas_from_at more ns i (subst (λ (j : ℕ). earlier_from j ns ≡ true) long p.1) (omega arith))

pub formulas_at : (ns : List Node) (i : ℕ) → earlier ns ≡ true → i < length ns → get_or (formulas ns) i truth ≡ tree_of (formulas ns) (get_or ns i True)
formulas_at ns i h l =
    let e : 0 + i ≡ i = omega arith in
    subst (λ (j : ℕ). get_or (formulas ns) j truth ≡ tree_of (formulas ns) (get_or ns i True)) e (formulas_from_at [] ns i h l)
