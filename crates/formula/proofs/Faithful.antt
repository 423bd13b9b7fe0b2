-- Merging keeps the formulas: each once, in the order in which they first come, and each word's number is that of its formula.
use Rattle.std.proofs.Common.{◌≡◌, ℕ, suc, ◌+◌, ◌<◌, ◌≤◌, true, List, [], ◌∷◌, ◌++◌, length, get_or, sym, refl, ap, ◌∙◌, subst, ⊎_elim, arith, rules}
use Rattle.std.proofs.lemmas.List.Elements.{Contains-get_or, at_from_Contains}
use Rattle.std.proofs.lemmas.List.{append_assoc, length_push, get_or_append_left, get_or_push}
use Rattle.std.proofs.lemmas.Bool.{and_parts, ltb-true, lt-ltb, cases_lt}
use Rattle.register.specs.Keys.{Identical, Kept, place_of, enter}
use Rattle.register.proofs.Identity.{IsIdentity, place_of_at, place_of_before}
use Rattle.register.proofs.Keys.{enter_both}
use Rattle.register.proofs.Sameness.{identical_sameness}
use Rattle.register.proofs.Steps.{kept_none, kept_there, kept_new}
use Rattle.formula.specs.declared.Node.{Node}
use Rattle.formula.specs.declared.Node.TheVariants.{Label, True, Not, And, Or, Previous, Since, Always, Once}
use Rattle.formula.specs.Formulas.{Formula, truth, tree_of, formulas, operands_below, earlier_from, earlier}
use Rattle.formula.specs.Merging.{same_node, renumbered, SoFar, merge_one, merge_from, KeepsFormulas}
use Rattle.formula.proofs.Trees.{formulas-push, length-formulas, formulas_at, operands_below_more, earlier_at, earlier-push}
use Rattle.formula.proofs.Apart.{tree_of_apart}

pub same_node_identity : IsIdentity same_node
same_node_identity = search rules

renumbered_below : (ks : List ℕ) (k m : ℕ) (w : Node) → operands_below k w ≡ true → ((i : ℕ) → i < k → get_or ks i 0 < m) → operands_below m (renumbered ks w) ≡ true
renumbered_below ks k m (Label p) h low = refl
renumbered_below ks k m True h low = refl
renumbered_below ks k m (Not a) h low = lt-ltb (get_or ks a 0) m (low a (ltb-true a k h))
renumbered_below ks k m (And a b) h low = search rules
renumbered_below ks k m (Or a b) h low = search rules
renumbered_below ks k m (Previous a) h low = lt-ltb (get_or ks a 0) m (low a (ltb-true a k h))
renumbered_below ks k m (Since a b) h low = search rules
renumbered_below ks k m (Always a) h low = lt-ltb (get_or ks a 0) m (low a (ltb-true a k h))
renumbered_below ks k m (Once a) h low = lt-ltb (get_or ks a 0) m (low a (ltb-true a k h))

renumbered_tree : (ts us : List Formula) (ks : List ℕ) (k : ℕ) (w : Node) → operands_below k w ≡ true → ((i : ℕ) → i < k → get_or us (get_or ks i 0) truth ≡ get_or ts i truth) → tree_of us (renumbered ks w) ≡ tree_of ts w
renumbered_tree ts us ks k (Label p) h same = refl
renumbered_tree ts us ks k True h same = refl
renumbered_tree ts us ks k (Not a) h same = let e = same a (ltb-true a k h) in cc
renumbered_tree ts us ks k (And a b) h same = search rules
renumbered_tree ts us ks k (Or a b) h same = search rules
renumbered_tree ts us ks k (Previous a) h same = let e = same a (ltb-true a k h) in cc
renumbered_tree ts us ks k (Since a b) h same = search rules
renumbered_tree ts us ks k (Always a) h same = let e = same a (ltb-true a k h) in cc
renumbered_tree ts us ks k (Once a) h same = let e = same a (ltb-true a k h) in cc

-- what holds of the nodes and numbers of the words that came
record Sound (came held : List Node) (numbers : List ℕ) : Type 0 where
  long : length numbers ≡ length came
  early : earlier held ≡ true
  range : (i : ℕ) → i < length came → get_or numbers i 0 < length held
  same : (i : ℕ) → i < length came → get_or (formulas held) (get_or numbers i 0) truth ≡ get_or (formulas came) i truth
  kept : Kept (formulas came) (formulas held)

-- a fact of each number but the last, and of the last
each_number : (P : ℕ → ℕ → Type 0) (ks : List ℕ) (p k : ℕ) → length ks ≡ k → ((i : ℕ) → i < k → P i (get_or ks i 0)) → P k p → (i : ℕ) → i < k + 1 → P i (get_or (ks ++ (p ∷ [])) i 0)
each_number P ks p k e all last i l =
    ⊎_elim
    (λ (in' : i < k). subst (P i) (sym (get_or_append_left ks (p ∷ []) 0 i (omega arith))) (all i in'))
    (λ (past : k ≤ i).
    let at : k ≡ i = omega arith in
    subst (P i) (sym (get_or_push ks p 0 i (e ∙ at))) (subst (λ (j : ℕ). P j p) at last))
    (cases_lt i k)

-- the trees of the words, with one word more
front_tree : (came : List Node) (w : Node) (i : ℕ) → i < length came → get_or (formulas (came ++ (w ∷ []))) i truth ≡ get_or (formulas came) i truth
front_tree came w i l =
    ap (λ ts. get_or ts i truth) (formulas-push came w)
    ∙ get_or_append_left (formulas came) (tree_of (formulas came) w ∷ []) truth i (omega (arith, length-formulas came))

last_tree : (came : List Node) (w : Node) → get_or (formulas (came ++ (w ∷ []))) (length came) truth ≡ tree_of (formulas came) w
last_tree came w =
    ap (λ ts. get_or ts (length came) truth) (formulas-push came w)
    ∙ get_or_push (formulas came) (tree_of (formulas came) w) truth (length came) (length-formulas came)

module _ (came held : List Node) (numbers : List ℕ) (w : Node) (sound : Sound came held numbers) (low : operands_below (length came) w ≡ true) where
  low_node : operands_below (length held) (renumbered numbers w) ≡ true
  low_node = search rules

  node_tree : tree_of (formulas held) (renumbered numbers w) ≡ tree_of (formulas came) w
  node_tree = search rules

  -- a node of the list has the tree of the word only if it is the word's node
  only_node : (p : ℕ) → p < length held → get_or (formulas held) p truth ≡ tree_of (formulas came) w → get_or held p True ≡ renumbered numbers w
  only_node p l e =
      let long : length held ≡ length (formulas held) = sym (length-formulas held) in
      tree_of_apart (formulas held) (get_or held p True) (renumbered numbers w) sound.kept.once
      (operands_below_more p (length (formulas held)) (get_or held p True) (omega arith) (earlier_at held p sound.early l))
      (subst (λ (j : ℕ). operands_below j (renumbered numbers w) ≡ true) long low_node)
      (sym (formulas_at held p sound.early l) ∙ e ∙ sym node_tree)

  sound_there : (p : ℕ) → p < length held → get_or held p True ≡ renumbered numbers w → Sound (came ++ (w ∷ [])) held (numbers ++ (p ∷ []))
  sound_there p l e =
      let tree : get_or (formulas held) p truth ≡ tree_of (formulas came) w =
      formulas_at held p sound.early l ∙ ap (tree_of (formulas held)) e ∙ node_tree in
      let in' : p < length (formulas held) = omega (arith, length-formulas held) in
      record {
        long = omega (arith, length_push numbers p, length_push came w, sound.long);
        early = sound.early;
        range =
            λ i m.
            each_number (λ i k. k < length held) numbers p (length came) sound.long sound.range l i (omega (arith, length_push came w));
        same =
            λ i m.
            each_number (λ i k. get_or (formulas held) k truth ≡ get_or (formulas (came ++ (w ∷ []))) i truth) numbers p (length came) sound.long
            (λ i l. sound.same i l ∙ sym (front_tree came w i l)) (tree ∙ sym (last_tree came w)) i (omega (arith, length_push came w));
        kept =
            subst (λ ts. Kept ts (formulas held)) (sym (formulas-push came w))
            (kept_there Identical identical_sameness (tree_of (formulas came) w) (formulas came) (formulas held) sound.kept
            (get_or (formulas held) p truth, Contains-get_or (formulas held) p truth in', sym tree));
      }

  sound_new : ((p : ℕ) → p < length held → get_or held p True ≡ renumbered numbers w → ⊥) → Sound (came ++ (w ∷ [])) (held ++ (renumbered numbers w ∷ [])) (numbers ++ (length held ∷ []))
  sound_new new =
      let n = renumbered numbers w in
      let trees : formulas (held ++ (n ∷ [])) ≡ formulas held ++ (tree_of (formulas came) w ∷ []) =
      formulas-push held n ∙ ap (λ t. formulas held ++ (t ∷ [])) node_tree in
      record {
        long = omega (arith, length_push numbers (length held), length_push came w, sound.long);
        early = earlier-push held n sound.early low_node;
        range =
            λ i m.
            each_number (λ i k. k < length (held ++ (n ∷ []))) numbers (length held) (length came) sound.long
            (λ i l. omega (arith, sound.range i l, length_push held n)) (omega (arith, length_push held n)) i (omega (arith, length_push came w));
        same =
            λ i m.
            each_number (λ i k. get_or (formulas (held ++ (n ∷ []))) k truth ≡ get_or (formulas (came ++ (w ∷ []))) i truth) numbers (length held) (length came) sound.long
            (λ i l. front_tree held n (get_or numbers i 0) (sound.range i l) ∙ sound.same i l ∙ sym (front_tree came w i l))
            (last_tree held n ∙ node_tree ∙ sym (last_tree came w)) i (omega (arith, length_push came w));
        kept =
            subst (λ ts. Kept ts (formulas (held ++ (n ∷ [])))) (sym (formulas-push came w))
            (subst (Kept (formulas came ++ (tree_of (formulas came) w ∷ []))) (sym trees)
            (kept_new Identical identical_sameness (tree_of (formulas came) w) (formulas came) (formulas held) sound.kept
            (λ t had same.
            let at = at_from_Contains (formulas held) t had in
            let in' : at.0 < length held = omega (arith, at.1, length-formulas held) in
            new at.0 in' (only_node at.0 in' (at.2 truth ∙ same)))));
      }

  sound_more : Sound (came ++ (w ∷ [])) (enter same_node (renumbered numbers w) held) (numbers ++ (place_of same_node (renumbered numbers w) held ∷ []))
  sound_more =
      let n = renumbered numbers w in
      enter_both same_node n held (λ h. Sound (came ++ (w ∷ [])) h (numbers ++ (place_of same_node n held ∷ [])))
      (λ l. sound_there (place_of same_node n held) l (place_of_at same_node same_node_identity n held True l))
      (λ e.
      subst (λ (p : ℕ). Sound (came ++ (w ∷ [])) (held ++ (n ∷ [])) (numbers ++ (p ∷ []))) (sym e)
      (sound_new (λ p l at. place_of_before same_node same_node_identity n held p True (omega arith) at)))

sound_all : (came ws : List Node) (m : SoFar) → Sound came m.nodes m.numbers → earlier_from (length came) ws ≡ true → Sound (came ++ ws) (merge_from m ws).nodes (merge_from m ws).numbers
sound_all came [] m sound h = search rules
sound_all came (w ∷ ws) m sound h =
    let p = and_parts (operands_below (length came) w) (earlier_from (suc (length came)) ws) h in
    let long : suc (length came) ≡ length (came ++ (w ∷ [])) = omega (arith, length_push came w) in
    let m' = merge_one m w in
    subst (λ cs. Sound cs (merge_from m' ws).nodes (merge_from m' ws).numbers) (append_assoc came (w ∷ []) ws)
    (sound_all (came ++ (w ∷ [])) ws m' (sound_more came m.nodes m.numbers w sound p.0)
    (subst (λ (j : ℕ). earlier_from j ws ≡ true) long p.1))

pub faithful : (ws : List Node) → earlier ws ≡ true → KeepsFormulas ws
faithful ws h =
    let none : Sound [] [] [] = record {
      long = refl;
      early = refl;
      range = λ i l. absurd (omega arith);
      same = λ i l. absurd (omega arith);
      kept = kept_none Identical;
    } in
    let sound = sound_all [] ws (record { nodes = []; numbers = [] }) none h in
    record {
      formulas_kept = sound.kept;
      same_formula = sound.same;
      still_earlier = sound.early;
      all_numbered = sound.long;
      in_range = sound.range;
    }
