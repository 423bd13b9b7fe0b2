-- What stands in filled tables, place by place. For others: `picks_lowest`, `chooses_lowest` and `nothing_held`.
use Rattle.std.proofs.Common.{◌≡◌, ℕ, suc, ◌+◌, ◌-◌, ◌*◌, ◌<◌, ◌≤◌, List, ℤ, pos, ◌+ℤ◌, Some, refl, sym, ap, ◌∙◌, subst, mul_comm, true, arith}
use Rattle.std.proofs.lemmas.Bool.{lt-ltb}
use Rattle.std.proofs.lemmas.Nat.{div-mul-add, mod-mul-add, mul-add-lt}
use Rattle.model.specs.Models.{Model, Lawful, NumberedBy}
use Rattle.model.proofs.Laws.{target_state}
use Rattle.weighing.specs.Discounts.{discount_of}
use Rattle.weighmodel.specs.Weighings.{Weigh, held, free_mean, free_worst}
use Rattle.worth.specs.declared.Pick.{Pick}
use Rattle.worth.specs.Choosing.{Picks}
use Rattle.worth.specs.Unheld.{NeverHeld}
use Rattle.worth.specs.Worths.{own_part, summed, action_of, pick_at, worth_by, worth_of, choice_of}
use Rattle.worth.proofs.Joining.{joined_same}
use Rattle.worth.proofs.Picking.{pick_some, pick_told}
use Rattle.worth.proofs.Unheld.{nothing_held_back}
use Rattle.planning.specs.Choices.{worth_in, value_in, choice_in, pick_in, value_of, ChoosesLowest, PicksLowest, Unheld, NothingHeld}
use Rattle.planning.specs.Plans.{HoldsTo, worth_at, choice_at}

-- by the backward rule alone, from the choices
module _ (w : Weigh) (m : Model) (law : Lawful m) (num : NumberedBy m) (horizon : ℕ) (choices : List ℕ) (chosen : HoldsTo (choice_at w m horizon) (horizon * m.span) choices) where
  -- with k slots left, one of them for this choice
  module _ (k s : ℕ) (some : 1 ≤ k) (few : k ≤ horizon) (inside : s < m.span) where
    abbrev before : ℕ → ℤ
    before t = worth_of w discount_of m horizon (k - 1) t

    choice_there : choice_in m choices k s ≡ action_of (pick_at w m before s)
    choice_there =
        let low : k - 1 < horizon = omega arith in
        chosen ((k - 1) * m.span + s) 0 (omega (arith, mul-add-lt (k - 1) m.span s horizon low inside, mul_comm horizon m.span))
        ∙ (λ i. choice_of w discount_of m horizon (div-mul-add (k - 1) m.span s inside i) (mod-mul-add (k - 1) m.span s inside i))

    -- what is picked by the rule
    best : (p : Pick) × (pick_at w m before s ≡ Some p)
    best =
        let waits = law.moves.waits s (num.below s ∙ lt-ltb s m.span inside) in
        pick_some (m.offered s) (value_of w m horizon k s) m.actions 0 (law.moves.offers s 0 waits).1 waits

    told : Picks (m.offered s) (value_of w m horizon k s) m.actions best.0
    told = pick_told (m.offered s) (value_of w m horizon k s) m.actions best.0 best.1

    action : choice_in m choices k s ≡ best.0.action
    action = choice_there ∙ ap action_of best.1

    value : value_of w m horizon k s (choice_in m choices k s) ≡ best.0.value
    value = ap (value_of w m horizon k s) action ∙ sym told.valued

    picked : Picks (m.offered s) (value_of w m horizon k s) m.actions (record { action = choice_in m choices k s; value = value_of w m horizon k s (choice_in m choices k s) })
    picked = record {
      inside = rw action told.inside;
      offered = ap (m.offered s) action ∙ told.offered;
      valued = refl;
      largest = λ a l t. rw value (told.largest a l t);
      lowest = λ a l t. rw value (told.lowest a (subst (λ n. a < n) action l) t);
    }

  pub picks_lowest : PicksLowest w m horizon choices
  picks_lowest = picked

module _ (w : Weigh) (m : Model) (law : Lawful m) (num : NumberedBy m) (horizon : ℕ) (worths : List ℤ) (choices : List ℕ) (filled : HoldsTo (worth_at w m horizon) ((horizon + 1) * m.span) worths) (chosen : HoldsTo (choice_at w m horizon) (horizon * m.span) choices) where
  below_state : (s : ℕ) → s < m.span → m.state s ≡ true
  below_state s inside = num.below s ∙ lt-ltb s m.span inside

  -- the worth in the table is the rule's
  pub worth_there : (k s : ℕ) → k ≤ horizon → s < m.span → worth_in m worths k s ≡ worth_of w discount_of m horizon k s
  worth_there k s few inside =
      filled (k * m.span + s) (pos 0) (omega (arith, mul-add-lt k m.span s (horizon + 1) (omega arith) inside, mul_comm (horizon + 1) m.span))
      ∙ (λ i. worth_of w discount_of m horizon (div-mul-add k m.span s inside i) (mod-mul-add k m.span s inside i))

  -- with k slots left, one of them for this choice
  module _ (k s : ℕ) (some : 1 ≤ k) (few : k ≤ horizon) (inside : s < m.span) where
    value_there : (a : ℕ) → value_in w m worths k s a ≡ value_of w m horizon k s a
    value_there a =
        joined_same w (worth_in m worths (k - 1)) (worth_of w discount_of m horizon (k - 1)) w.first w.first (m.outcomes s a) refl
        (λ t has. worth_there (k - 1) t (omega arith) (law.states.within t (target_state m law s a t has)))

    by_rule : Picks (m.offered s) (value_of w m horizon k s) m.actions (record { action = choice_in m choices k s; value = value_of w m horizon k s (choice_in m choices k s) })
    by_rule = picks_lowest w m law num horizon choices chosen k s some few inside

    picks_there : Picks (m.offered s) (value_in w m worths k s) m.actions (pick_in w m worths choices k s)
    picks_there = record {
      inside = by_rule.inside;
      offered = by_rule.offered;
      valued = refl;
      largest = λ a l t. rw (value_there a, value_there (choice_in m choices k s)) (by_rule.largest a l t);
      lowest = λ a l t. rw (value_there a, value_there (choice_in m choices k s)) (by_rule.lowest a l t);
    }

    worth_made : worth_in m worths k s ≡ held (own_part w discount_of horizon k (m.reward s) +ℤ value_in w m worths k s (choice_in m choices k s))
    unfolding worth_by
    worth_made =
        let next : suc (k - 1) ≡ k = omega arith in
        worth_there k s few inside
        ∙ ap (λ n. worth_of w discount_of m horizon n s) (sym next)
        ∙ ap (summed held (own_part w discount_of horizon (suc (k - 1)) (m.reward s))) (best w m law num horizon choices chosen k s some few inside).1
        ∙ (λ i. held (own_part w discount_of horizon (next i) (m.reward s) +ℤ sym (value_there (choice_in m choices k s) ∙ value w m law num horizon choices chosen k s some few inside) i))

  last_there : (s : ℕ) → s < m.span → worth_in m worths 0 s ≡ own_part w discount_of horizon 0 (m.reward s)
  unfolding worth_by
  last_there s inside = worth_there 0 s (omega arith) inside

  pub chooses_lowest : ChoosesLowest w m horizon worths choices
  chooses_lowest = record { picks = picks_there; worth = worth_made; last = last_there }

  unheld_there : (free : Weigh) → horizon ≤ 12 → NeverHeld w free → Unheld free m horizon worths
  unheld_there free short never = λ k s few inside. worth_there k s few inside ∙ never m law horizon k s short few (below_state s inside)

  pub nothing_held : horizon ≤ 12 → NothingHeld w m horizon worths
  nothing_held short = record {
    of_mean = λ is. unheld_there free_mean short (subst (λ v. NeverHeld v free_mean) (sym is) nothing_held_back.of_mean);
    of_worst = λ is. unheld_there free_worst short (subst (λ v. NeverHeld v free_worst) (sym is) nothing_held_back.of_worst);
  }
