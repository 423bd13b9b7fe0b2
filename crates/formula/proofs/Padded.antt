-- The marks in a table of 128 keep the same items as the marks of the nodes alone.
use Rattle.std.proofs.Common.{◌≡◌, ℕ, zero, suc, ◌-◌, Bool, false, ◌&&◌, ◌||◌, List, ◌++◌, length, get_or, replicate, Some, sym, refl, ap, ◌∙◌, inl, inr, rules}
use Rattle.std.proofs.lemmas.List.{get_or_append_left, get_or-append_right, get_or_past}
use Rattle.std.proofs.lemmas.Bool.{cases_lt}
use Rattle.formula.specs.declared.Node.{Node}
use Rattle.formula.specs.declared.Node.TheVariants.{True}
use Rattle.formula.specs.Items.{looks_back, back_below, items_at, items_below, kept_items}
use Rattle.formula.specs.Resting.{resting, Rested}
use Rattle.formula.proofs.Marks.{unmarked}

pub padded_at : (ms : List Bool) (k i : ℕ) → get_or (ms ++ replicate k false) i false ≡ get_or ms i false
padded_at ms k i =
    elim (cases_lt i (length ms)) [
      | inl l ↦ get_or_append_left ms (replicate k false) false i l
      | inr past ↦
          get_or-append_right ms (replicate k false) (length ms) i false refl past
          ∙ unmarked k (i - length ms)
          ∙ sym (get_or_past ms i false past)
    ]

-- the marks of the answer are those of the nodes,
pub rested_at : (nodes : List Node) (roots : List ℕ) (ms : List Bool) → Rested nodes roots (Some ms) → (i : ℕ) → get_or ms i false ≡ get_or (resting nodes roots) i false
rested_at nodes roots ms (few, e) i =
    ap (λ m. get_or m i false) e ∙ padded_at (resting nodes roots) (128 - length nodes) i

module _ (nodes : List Node) (used used' : List Bool) (same : (i : ℕ) → get_or used i false ≡ get_or used' i false) where
  back_same : (k i : ℕ) → back_below nodes used k i ≡ back_below nodes used' k i
  back_same zero i = refl
  back_same (suc k) i =
      ap (λ b. b || (get_or used k false && looks_back i (get_or nodes k True))) (back_same k i)
      ∙ ap (λ u. back_below nodes used' k i || (u && looks_back i (get_or nodes k True))) (same k)

  at_same : (i : ℕ) → items_at nodes used i ≡ items_at nodes used' i
  at_same i = search rules

  below_same : (k : ℕ) → items_below nodes used k ≡ items_below nodes used' k
  below_same zero = refl
  below_same (suc k) =
      ap (λ l. l ++ items_at nodes used k) (below_same k) ∙ ap (λ l. items_below nodes used' k ++ l) (at_same k)

  -- what is kept depends on the marks alone
  pub kept_same : kept_items nodes used ≡ kept_items nodes used'
  kept_same = below_same (length nodes)

-- and so are the items that they keep
pub kept_rested : (nodes : List Node) (roots : List ℕ) (ms : List Bool) → Rested nodes roots (Some ms) → kept_items nodes ms ≡ kept_items nodes (resting nodes roots)
kept_rested nodes roots ms r = kept_same nodes ms (resting nodes roots) (rested_at nodes roots ms r)
