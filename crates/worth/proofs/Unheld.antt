-- Under mean and under worst no worth is ever held back. For others: `nothing_held_back`.
use Rattle.std.proofs.Common.{◌≡◌, ℕ, zero, suc, ◌+◌, ◌*◌, ◌^◌, ◌≤◌, true, ℤ, ◌+ℤ◌, nat_abs, Some, sym, ap, ◌∙◌, subst, arith}
use native.Mathlib.Nat.{pow-zero}
use Rattle.model.specs.Models.{Model, Lawful}
use Rattle.model.proofs.Laws.{target_state}
use Rattle.weighing.specs.Discounts.{discount_of}
use Rattle.weighmodel.specs.Weighings.{Weigh, held, mean, worst, free_mean, free_worst}
use Rattle.worth.specs.Worths.{joined, own_part, summed, pick_at, worth_by, worth_of}
use Rattle.worth.specs.Unheld.{NothingHeldBack}
use Rattle.worth.proofs.Joins.{Frees, mean_size, mean_frees, worst_size, worst_frees}
use Rattle.worth.proofs.Picking.{pick_some, pick_told, pick_same}
use Rattle.worth.proofs.Sizes.{abs_sum, held_small, own_size}

module _ (w free : Weigh) (size : ℕ → ℕ) (frees : Frees w free size) (m : Model) (law : Lawful m) (horizon : ℕ) (short : horizon ≤ 12) where
  abbrev holding : ℕ → ℕ → ℤ
  holding k s = worth_of w discount_of m horizon k s

  abbrev freely : ℕ → ℕ → ℤ
  freely k s = worth_by (λ x. x) free discount_of m horizon k s

  own_same : (k s : ℕ) → own_part w discount_of horizon k (m.reward s) ≡ own_part free discount_of horizon k (m.reward s)
  own_same k s = ap (λ n. own_part (record { unit = n; first = free.first; join = free.join }) discount_of horizon k (m.reward s)) frees.units

  own_small : (k s : ℕ) → nat_abs (own_part free discount_of horizon k (m.reward s)) ≤ free.unit ^ k * 512000
  own_small k s = own_size free horizon k (m.reward s) (omega (arith, law.shows.bounded s, law.shows.modest))

  -- a worth is what it is with nothing held, and of bounded size
  unheld : (k s : ℕ) → k ≤ horizon → m.state s ≡ true → (holding k s ≡ freely k s) × (nat_abs (freely k s) ≤ size k)
  unfolding worth_by
  unheld zero s left state = (own_same 0 s, omega (arith, own_small 0 s, frees.begin, pow-zero free.unit))
  unheld (suc k) s left state =
      let low : suc k ≤ 12 = omega arith in
      let joins : (a : ℕ) → m.offered s a ≡ true → (joined w (holding k) (m.outcomes s a) ≡ joined free (freely k) (m.outcomes s a)) × (nat_abs (joined free (freely k) (m.outcomes s a)) + free.unit ^ suc k * 512000 ≤ size (suc k)) =
      λ a off. frees.joins k low (holding k) (freely k) (m.outcomes s a) (law.moves.some s a off) (law.moves.whole s a off) (λ t has. unheld k t (omega arith) (target_state m law s a t has)) in
      let waiting = law.moves.waits s state in
      let best = pick_some (m.offered s) (λ a. joined free (freely k) (m.outcomes s a)) m.actions 0 (law.moves.offers s 0 waiting).1 waiting in
      let told = pick_told (m.offered s) (λ a. joined free (freely k) (m.outcomes s a)) m.actions best.0 best.1 in
      let picks : pick_at w m (holding k) s ≡ Some best.0 = pick_same (m.offered s) (λ a. joined w (holding k) (m.outcomes s a)) (λ a. joined free (freely k) (m.outcomes s a)) (λ a off. (joins a off).0) m.actions ∙ best.1 in
      let value : nat_abs best.0.value + free.unit ^ suc k * 512000 ≤ size (suc k) = subst (λ v. nat_abs v + free.unit ^ suc k * 512000 ≤ size (suc k)) (sym told.valued) (joins best.0.action told.offered).1 in
      let sum : nat_abs (own_part free discount_of horizon (suc k) (m.reward s) +ℤ best.0.value) ≤ size (suc k) =
      omega (arith, abs_sum (own_part free discount_of horizon (suc k) (m.reward s)) best.0.value, own_small (suc k) s, value) in
      let free-is : freely (suc k) s ≡ own_part free discount_of horizon (suc k) (m.reward s) +ℤ best.0.value = ap (summed (λ x. x) (own_part free discount_of horizon (suc k) (m.reward s))) best.1 in
      let held-is : holding (suc k) s ≡ held (own_part free discount_of horizon (suc k) (m.reward s) +ℤ best.0.value) = (λ i. summed held (own_same (suc k) s i) (picks i)) in (
        held-is ∙ held_small (own_part free discount_of horizon (suc k) (m.reward s) +ℤ best.0.value) (omega (arith, sum, frees.small (suc k) low)) ∙ sym free-is,
        subst (λ v. nat_abs v ≤ size (suc k)) (sym free-is) sum,
      )

pub nothing_held_back : NothingHeldBack
nothing_held_back = record {
  of_mean = λ m law horizon k s short left state. (unheld mean free_mean mean_size mean_frees m law horizon short k s left state).0;
  of_worst = λ m law horizon k s short left state. (unheld worst free_worst worst_size worst_frees m law horizon short k s left state).0;
}
