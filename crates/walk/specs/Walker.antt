-- A walk along a model by someone who knows only the present state, the slot, the total and the open choice. Each number is a choice
-- where none is open, and else tells an outcome of the open choice.
use Rattle.std.specs.Prelude.{ℕ, ◌+◌, Bool, true, false, List, [], ◌∷◌, ℤ, pos, ◌+ℤ◌, ◌*ℤ◌, Ok, Err, Result, Some, None, Option, nat_lt}
use Rattle.std.specs.List.{slice_get}
use Rattle.model.specs.declared.Outcome.{Outcome}
use Rattle.model.specs.Models.{Model}
use Rattle.refusal.specs.declared.Refusal.TheVariants.{NoSuchOutcome}
use Rattle.walk.specs.declared.Sight.{Sight}
use Rattle.walk.specs.declared.Step.{Step}
use Rattle.walk.specs.Turns.{Turn, goes, refuses, turned, choice_refusal}

pub record Stand : Type 0 where
  pub state : ℕ
  pub slot : ℕ
  pub total : ℤ

-- with no choice open, or with one
pub data Walk : Type 0 where
  standing : Stand → Walk
  choosing : Stand → ℕ → Walk

abbrev pub is_choosing : Walk → Bool
is_choosing (standing s) = false
is_choosing (choosing s a) = true

-- the state of the model that a walk stands at
abbrev pub stands_at : Walk → ℕ
stands_at (standing s) = s.state
stands_at (choosing s a) = s.state

-- the choice that is open, if one is
abbrev pub chosen_in : Walk → Option ℕ
chosen_in (standing s) = None
chosen_in (choosing s a) = Some a

-- discounts are by slot
abbrev pub opened : (ℕ → ℕ) → Model → Stand
opened discount m = record {
  state = m.start;
  slot = 0;
  total = pos (discount 0) *ℤ m.reward m.start;
}

abbrev pub begun : (ℕ → ℕ) → Model → Walk
begun discount m = standing (opened discount m)

-- a choice: refused in the last slot, then where the action is not offered
abbrev pub choice : Model → Stand → ℕ → Turn Walk
choice m s a =
    turned (choice_refusal (nat_lt s.slot 12) (m.offered s.state) a) (standing s) (choosing s a)

-- an outcome moves on by one slot and adds that slot's reward
abbrev pub arrived : (ℕ → ℕ) → Model → Stand → Outcome → Stand
arrived discount m s o = record {
  state = o.target;
  slot = s.slot + 1;
  total = s.total +ℤ (pos (discount (s.slot + 1)) *ℤ m.reward o.target);
}

abbrev pub told : (ℕ → ℕ) → Model → Stand → ℕ → Option Outcome → Turn Walk
told discount m s a (Some o) = goes (standing (arrived discount m s o))
told discount m s a None = refuses NoSuchOutcome (choosing s a)

-- a told outcome: refused where the open choice has none of that number
abbrev pub telling : (ℕ → ℕ) → Model → Stand → ℕ → ℕ → Turn Walk
telling discount m s a n = told discount m s a (slice_get (m.outcomes s.state a) n)

abbrev pub turn : (ℕ → ℕ) → Model → Walk → ℕ → Turn Walk
turn discount m (standing s) n = choice m s n
turn discount m (choosing s a) n = telling discount m s a n

-- what a walk has: the site state is the ground of the present state
abbrev pub sight_of : Model → Stand → Sight
sight_of m s = record {
  site = m.site s.state;
  slot = s.slot;
  reward = m.reward s.state;
  total = s.total;
}

abbrev pub walk_has : Model → Walk → Sight
walk_has m (standing s) = sight_of m s
walk_has m (choosing s a) = sight_of m s

-- a walk ends with what it has; with a choice open it goes on
abbrev pub ending : Model → Walk → Result Sight Walk
ending m (standing s) = Ok (sight_of m s)
ending m (choosing s a) = Err (choosing s a)

-- what is told of a number: whether it was refused, and what the walk has after it
abbrev pub step : Model → Turn Walk → Step
step m t = record { refusal = t.refused; sight = walk_has m t.next }

-- a run of numbers: the step of each
unfoldable pub run : (ℕ → ℕ) → Model → Walk → List ℕ → List Step
run discount m w [] = []
run discount m w (n ∷ ns) =
    step m (turn discount m w n) ∷ run discount m (turn discount m w n).next ns

-- where it leads
unfoldable pub reached : (ℕ → ℕ) → Model → Walk → List ℕ → Walk
reached discount m w [] = w
reached discount m w (n ∷ ns) = reached discount m (turn discount m w n).next ns
