-- What the two tables of a plan say, place by place, with no recursion: which action is chosen and why, and what the worth is made of.
use Rattle.std.specs.Prelude.{◌≡◌, ℕ, ◌+◌, ◌-◌, ◌*◌, ◌<◌, ◌≤◌, List, ℤ, ◌+ℤ◌, slice_index}
use Rattle.model.specs.Models.{Model}
use Rattle.weighing.specs.Discounts.{discount_of}
use Rattle.weighmodel.specs.Weighings.{Weigh, held, mean, worst, free_mean, free_worst}
use Rattle.worth.specs.declared.Pick.{Pick}
use Rattle.worth.specs.Choosing.{Picks}
use Rattle.worth.specs.Worths.{joined, own_part, worth_by, worth_of}
use Rattle.planning.specs.Plans.{stored_worth}

-- the worth that stands in the table for a state with k slots left
abbrev pub worth_in : Model → List ℤ → ℕ → ℕ → ℤ
worth_in m worths k s = stored_worth worths (k * m.span + s)

-- the value of an action in a state with k slots left: its outcomes joined in order, with their worths at one slot less
abbrev pub value_in : Weigh → Model → List ℤ → ℕ → ℕ → ℕ → ℤ
value_in w m worths k s a = joined w (worth_in m worths (k - 1)) (m.outcomes s a)

-- the choice that stands in the table for a state with k slots left
abbrev pub choice_in : Model → List ℕ → ℕ → ℕ → ℕ
choice_in m choices k s = slice_index choices ((k - 1) * m.span + s)

-- and its value
abbrev pub pick_in : Weigh → Model → List ℤ → List ℕ → ℕ → ℕ → Pick
pick_in w m worths choices k s = record {
  action = choice_in m choices k s;
  value = value_in w m worths k s (choice_in m choices k s);
}

-- the own part plus the value of an action, held
abbrev pub worth_with : Weigh → Model → ℕ → ℕ → ℕ → Pick → ℤ
worth_with w m horizon k s p = held (own_part w discount_of horizon k (m.reward s) +ℤ p.value)

-- each choice is the lowest of the offered actions that reaches the largest value, and each worth is the own part plus that value, held;
-- with no slot left it is the own part
pub record ChoosesLowest (w : Weigh) (m : Model) (horizon : ℕ)
    (worths : List ℤ) (choices : List ℕ) : Type 0 where
  pub picks : (k s : ℕ) → 1 ≤ k → k ≤ horizon → s < m.span
      → Picks (m.offered s) (value_in w m worths k s) m.actions (pick_in w m worths choices k s)
  pub worth : (k s : ℕ) → 1 ≤ k → k ≤ horizon → s < m.span
      → worth_in m worths k s ≡ worth_with w m horizon k s (pick_in w m worths choices k s)
  pub last : (s : ℕ) → s < m.span
      → worth_in m worths 0 s ≡ own_part w discount_of horizon 0 (m.reward s)

-- the value of an action by the backward rule, with no table of worths
abbrev pub value_of : Weigh → Model → ℕ → ℕ → ℕ → ℕ → ℤ
value_of w m horizon k s a = joined w (worth_of w discount_of m horizon (k - 1)) (m.outcomes s a)

-- the choice that stands in the table, with that value
abbrev pub pick_of : Weigh → Model → ℕ → List ℕ → ℕ → ℕ → Pick
pick_of w m horizon choices k s = record {
  action = choice_in m choices k s;
  value = value_of w m horizon k s (choice_in m choices k s);
}

-- so is each choice the lowest of the offered actions that reaches the largest value
abbrev pub PicksLowest : Weigh → Model → ℕ → List ℕ → Type 0
PicksLowest w m horizon choices =
    (k s : ℕ) → 1 ≤ k → k ≤ horizon → s < m.span
    → Picks (m.offered s) (value_of w m horizon k s) m.actions (pick_of w m horizon choices k s)

-- the worths that stand in the table are those of the rule with nothing held
abbrev pub Unheld : Weigh → Model → ℕ → List ℤ → Type 0
Unheld free m horizon worths =
    (k s : ℕ) → k ≤ horizon → s < m.span
    → worth_in m worths k s ≡ worth_by (λ x. x) free discount_of m horizon k s

-- under mean and under worst no worth was held back
pub record NothingHeld (w : Weigh) (m : Model) (horizon : ℕ) (worths : List ℤ) : Type 0 where
  pub of_mean : w ≡ mean → Unheld free_mean m horizon worths
  pub of_worst : w ≡ worst → Unheld free_worst m horizon worths
