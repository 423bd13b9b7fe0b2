-- What stands at a place of the plan, from what stands at the places before it. For others: `picked_within`, `picked_small`,
-- `pick_more`, `pick_past`, `last_worth`, `first_row` and `entry_there`.
use Rattle.std.proofs.Common.{◌≡◌, ℕ, suc, ◌+◌, ◌-◌, ◌*◌, ◌/◌, ◌%◌, ◌<◌, ◌≤◌, Bool, true, false, List, [], ◌∷◌, ℤ, pos, Some, None, IfSome, Option, get_or, take, drop, refl, sym, ap, ◌∙◌, subst, mul_comm, mul-suc, suc-mul, add-one, arith}
use Rattle.std.specs.Prelude.{if◌then◌else◌}
use Rattle.std.proofs.lemmas.List.{get_or-take, get_or-drop}
use Rattle.std.proofs.lemmas.Nat.{div-mul-add, mod-mul-add}
use Rattle.std.proofs.Math.Nat.{div-add-mod, mod-lt}
use Rattle.model.specs.declared.Outcome.{Outcome}
use Rattle.model.specs.Models.{Model, Lawful, NumberedBy}
use Rattle.model.proofs.Laws.{target_state}
use Rattle.weighing.specs.Discounts.{discount_of}
use Rattle.weighmodel.specs.Weighings.{Weigh, LawfulWeigh, Within, held}
use Rattle.worth.specs.declared.Pick.{Pick}
use Rattle.worth.specs.Worths.{joined, joined_from, own_part, summed, better, pick_below, pick_at, worth_by, worth_of, choice_of, action_of}
use Rattle.worth.proofs.Joining.{joined_same}
use Rattle.worth.proofs.Picking.{pick_same, pick_told}
use Rattle.planning.specs.Plans.{HoldsTo, worth_at, choice_at}

-- what is joined is held
within_from : (w : Weigh) → LawfulWeigh w → (value : ℕ → ℤ) (x : ℤ) (os : List Outcome) → Within x → Within (joined_from w value x os)
within_from w law value x [] h = h
within_from w law value x (o ∷ os) h = within_from w law value (w.join x o.weight (value o.target)) os (law.result_held x o.weight (value o.target))

joined_within : (w : Weigh) → LawfulWeigh w → (value : ℕ → ℤ) (os : List Outcome) → Within (joined w value os)
joined_within w law value os = within_from w law value w.first os law.first_held

-- and so is the value of what is picked, whose action is one of the model's
pub picked_within : (w : Weigh) → LawfulWeigh w → (m : Model) (f : ℕ → ℤ) (s : ℕ) (o : Option Pick) → o ≡ pick_at w m f s → IfSome o (λ p. Within p.value)
picked_within w law m f s o is =
    let told = λ (p : Pick) (e : pick_at w m f s ≡ Some p). subst Within (sym (pick_told (m.offered s) (λ a. joined w f (m.outcomes s a)) m.actions p e).valued) (joined_within w law f (m.outcomes s p.action)) in
    let each : (q : Option Pick) → q ≡ pick_at w m f s → IfSome q (λ p. Within p.value) = λ q. elim q as (λ q. q ≡ pick_at w m f s → IfSome q (λ p. Within p.value)) [ None ↦ (λ e. tt) | Some p ↦ (λ e. told p (sym e)) ] in
    each o is

pub picked_small : (w : Weigh) (m : Model) → Lawful m → (f : ℕ → ℤ) (s : ℕ) (o : Option Pick) → o ≡ pick_at w m f s → action_of o < 8
picked_small w m law f s o is =
    let told = λ (p : Pick) (e : pick_at w m f s ≡ Some p). (pick_told (m.offered s) (λ a. joined w f (m.outcomes s a)) m.actions p e).inside in
    let each : (q : Option Pick) → q ≡ pick_at w m f s → action_of q < 8 = λ q. elim q as (λ q. q ≡ pick_at w m f s → action_of q < 8) [ None ↦ (λ e. omega arith) | Some p ↦ (λ e. omega (arith, told p (sym e), law.moves.acts.1)) ] in
    each o is

-- one action more: it is offered and taken where its value is larger, or it is not offered
pub pick_more : (offers : ℕ → Bool) (values : ℕ → ℤ) (n : ℕ) (o next : Option Pick) → o ≡ pick_below offers values n → offers n ≡ true → next ≡ better o n (values n) → next ≡ pick_below offers values (n + 1)
pick_more offers values n o next so on is =
    is
    ∙ ap (λ q. better q n (values n)) so
    ∙ ap (λ b. if b then better (pick_below offers values n) n (values n) else pick_below offers values n) (sym on)
    ∙ ap (pick_below offers values) (sym (add-one n))

pub pick_past : (offers : ℕ → Bool) (values : ℕ → ℤ) (n : ℕ) (o : Option Pick) → o ≡ pick_below offers values n → offers n ≡ false → o ≡ pick_below offers values (n + 1)
pick_past offers values n o so off =
    so
    ∙ ap (λ b. if b then better (pick_below offers values n) n (values n) else pick_below offers values n) (sym off)
    ∙ ap (pick_below offers values) (sym (add-one n))

module _ (w : Weigh) (m : Model) (law : Lawful m) (num : NumberedBy m) (horizon : ℕ) where
  abbrev own_at : ℕ → ℤ
  own_at p = own_part w discount_of horizon (p / m.span) (m.reward (p % m.span))

  -- with no slot left
  pub last_worth : (p : ℕ) → p / m.span ≡ 0 → worth_at w m horizon p ≡ own_at p
  unfolding worth_by
  last_worth p e =
      ap (λ k. worth_of w discount_of m horizon k (p % m.span)) e
      ∙ ap (λ k. own_part w discount_of horizon k (m.reward (p % m.span))) (sym e)

  -- in the first row no row is before
  pub first_row : (p : ℕ) → p / m.span ≡ 0 → m.span ≤ p → ⊥
  first_row p e row =
      let inside : p % m.span < m.span = mod-lt p (omega (arith, law.states.within m.start law.states.starts)) in
      let none : m.span * (p / m.span) ≡ m.span * 0 = ap (λ k. m.span * k) e in
      omega (arith, div-add-mod p m.span, inside, none)

  -- the row below
  below_worth : (xs : List ℤ) (p j t : ℕ) → HoldsTo (worth_at w m horizon) p xs → suc j * m.span ≤ p → t < m.span → get_or xs (j * m.span + t) (pos 0) ≡ worth_of w discount_of m horizon j t
  below_worth xs p j t before row inside =
      before (j * m.span + t) (pos 0) (omega (arith, row))
      ∙ (λ i. worth_of w discount_of m horizon (div-mul-add j m.span t inside i) (mod-mul-add j m.span t inside i))

  -- only the worths of states count
  picks_same : (f h : ℕ → ℤ) (s : ℕ) → ((t : ℕ) → t < m.span → f t ≡ h t) → pick_at w m f s ≡ pick_at w m h s
  picks_same f h s same =
      pick_same (m.offered s) (λ a. joined w f (m.outcomes s a)) (λ a. joined w h (m.outcomes s a))
      (λ a off. joined_same w f h w.first w.first (m.outcomes s a) refl (λ t has. same t (law.states.within t (target_state m law s a t has))))
      m.actions

  -- with j + 1 slots left, where f says what the row below holds
  module _ (p j : ℕ) (left : p / m.span ≡ suc j) (f : ℕ → ℤ) (row : (t : ℕ) → t < m.span → f t ≡ worth_of w discount_of m horizon j t) (o : Option Pick) (picks : o ≡ pick_at w m f (p % m.span)) where
    picked : o ≡ pick_at w m (worth_of w discount_of m horizon j) (p % m.span)
    picked = picks ∙ picks_same f (worth_of w discount_of m horizon j) (p % m.span) row

    entry_worth : worth_at w m horizon p ≡ summed held (own_at p) o
    unfolding worth_by
    entry_worth =
        ap (λ k. worth_of w discount_of m horizon k (p % m.span)) left
        ∙ (λ i. summed held (own_part w discount_of horizon (sym left i) (m.reward (p % m.span))) (sym picked i))

    entry_choice : choice_at w m horizon (p - m.span) ≡ action_of o
    entry_choice =
        let r = p % m.span in
        let some : 0 < m.span = omega (arith, law.states.within m.start law.states.starts) in
        let inside : r < m.span = mod-lt p some in
        let whole : m.span * (p / m.span) + r ≡ p = div-add-mod p m.span in
        let rows : m.span * (p / m.span) ≡ j * m.span + m.span = ap (λ k. m.span * k) left ∙ mul-suc m.span j ∙ ap (λ k. k + m.span) (mul_comm m.span j) in
        let place : p - m.span ≡ j * m.span + r = omega arith in
        let state : (p - m.span) % m.span ≡ r = ap (λ n. n % m.span) place ∙ mod-mul-add j m.span r inside in
        let slots : (p - m.span) / m.span ≡ j = ap (λ n. n / m.span) place ∙ div-mul-add j m.span r inside in
        (λ i. choice_of w discount_of m horizon (slots i) (state i)) ∙ ap action_of (sym picked)

  -- all of it, from the table so far
  pub entry_there : (xs : List ℤ) (p n : ℕ) (own : ℤ) (o : Option Pick) → HoldsTo (worth_at w m horizon) p xs → n ≡ m.span → (p / n ≡ 0 → ⊥)
      → own ≡ own_part w discount_of horizon (p / n) (m.reward (p % n))
      → o ≡ pick_at w m (λ t. get_or (take (p / n * n - (p / n - 1) * n) (drop ((p / n - 1) * n) xs)) t (pos 0)) (p % n)
      → (summed held own o ≡ worth_at w m horizon p) × (action_of o ≡ choice_at w m horizon (p - m.span))
  entry_there xs p n own o before same some part picks =
      let j = p / n - 1 in
      let left : p / n ≡ suc j = omega (arith, some) in
      let width : p / n * n ≡ j * n + n = ap (λ k. k * n) left ∙ suc-mul j n in
      let here : n * (p / n) ≡ p / n * n = mul_comm n (p / n) in
      let below : suc j * m.span ≤ p = omega (arith, div-add-mod p n, ap (λ k. suc j * k) same, suc-mul j n, width, here) in
      let row : (t : ℕ) → t < m.span → get_or (take (p / n * n - j * n) (drop (j * n) xs)) t (pos 0) ≡ worth_of w discount_of m horizon j t =
      λ t inside. get_or-take (p / n * n - j * n) (drop (j * n) xs) t (pos 0) (omega arith) ∙ get_or-drop (j * n) xs t (pos 0) ∙ ap (λ k. get_or xs (j * k + t) (pos 0)) same ∙ below_worth xs p j t before below inside in
      let f = λ (t : ℕ). get_or (take (p / n * n - j * n) (drop (j * n) xs)) t (pos 0) in
      let left' : p / m.span ≡ suc j = sym (ap (λ k. p / k) same) ∙ left in
      let picks' : o ≡ pick_at w m f (p % m.span) = picks ∙ ap (λ k. pick_at w m f (p % k)) same in
      let part' : own ≡ own_at p = part ∙ (λ i. own_part w discount_of horizon (p / same i) (m.reward (p % same i))) in (
        ap (λ x. summed held x o) part' ∙ sym (entry_worth p j left' f row o picks'),
        sym (entry_choice p j left' f row o picks'),
      )
