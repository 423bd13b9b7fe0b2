-- What a state is worth with so many slots left, by the backward rule, and which action is best there. The own part of a state is its
-- reward in the present slot; to it comes the largest joined value over the offered actions. With k slots left a worth counts in parts
-- of a reward: 256 × unit^k of them are one.
use Rattle.std.specs.Prelude.{ℕ, zero, suc, ◌-◌, ◌*◌, ◌^◌, Bool, if◌then◌else◌, List, ℤ, pos, ◌+ℤ◌, ◌*ℤ◌, Some, None, Option, fold, int_lt}
use Rattle.model.specs.declared.Outcome.{Outcome}
use Rattle.model.specs.Models.{Model}
use Rattle.weighmodel.specs.Weighings.{Weigh, held}
use Rattle.worth.specs.declared.Pick.{Pick}

-- the values of outcomes joined in order, after the value so far
abbrev pub joined_from : Weigh → (ℕ → ℤ) → ℤ → List Outcome → ℤ
joined_from w value x os = fold (λ y o. w.join y o.weight (value o.target)) x os

abbrev pub joined : Weigh → (ℕ → ℤ) → List Outcome → ℤ
joined w value os = joined_from w value w.first os

-- one action more: it is taken only where its value is larger
abbrev pub better : Option Pick → ℕ → ℤ → Option Pick
better None a v = Some (record { action = a; value = v })
better (Some p) a v = if int_lt p.value v then Some (record { action = a; value = v }) else Some p

-- the lowest of the offered actions below n that reaches the largest value
abbrev pub pick_below : (ℕ → Bool) → (ℕ → ℤ) → ℕ → Option Pick
pick_below offered value zero = None
pick_below offered value (suc a) =
    if offered a
    then better (pick_below offered value a) a (value a)
    else pick_below offered value a

-- the best action in a state, from the values of the states that it leads to
abbrev pub pick_at : Weigh → Model → (ℕ → ℤ) → ℕ → Option Pick
pick_at w m value s = pick_below (m.offered s) (λ a. joined w value (m.outcomes s a)) m.actions

-- the own part with k slots left of the horizon: discounts by slot
abbrev pub own_part : Weigh → (ℕ → ℕ) → ℕ → ℕ → ℤ → ℤ
own_part w discount horizon k reward = pos (w.unit ^ k * discount (horizon - k)) *ℤ reward

-- the own part plus the largest joined value, where anything is offered
abbrev pub summed : (ℤ → ℤ) → ℤ → Option Pick → ℤ
summed hold own None = own
summed hold own (Some p) = hold (own +ℤ p.value)

-- the worth of a state with k slots left, where sums are held by `hold`
unfoldable pub worth_by : (ℤ → ℤ) → Weigh → (ℕ → ℕ) → Model → ℕ → ℕ → ℕ → ℤ
worth_by hold w discount m horizon zero s = own_part w discount horizon 0 (m.reward s)
worth_by hold w discount m horizon (suc k) s =
    summed hold
    (own_part w discount horizon (suc k) (m.reward s))
    (pick_at w m (worth_by hold w discount m horizon k) s)

abbrev pub worth_of : Weigh → (ℕ → ℕ) → Model → ℕ → ℕ → ℕ → ℤ
worth_of w discount m horizon k s = worth_by held w discount m horizon k s

abbrev pub action_of : Option Pick → ℕ
action_of None = 0
action_of (Some p) = p.action

-- the choice with k + 1 slots left
abbrev pub choice_of : Weigh → (ℕ → ℕ) → Model → ℕ → ℕ → ℕ → ℕ
choice_of w discount m horizon k s = action_of (pick_at w m (worth_of w discount m horizon k) s)
