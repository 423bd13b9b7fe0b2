-- The reckoner keeps every ground state since the start and the open choice, and refuses by the ground model and by what is offered
-- after the record. What it has is said by the record: rewards are those of the whole record, and the total is the sum over its beginnings.
use Rattle.std.specs.Prelude.{◌≡◌, ℕ, zero, suc, ◌+◌, ◌-◌, List, [], ◌∷◌, ◌++◌, length, take, ℤ, pos, ◌+ℤ◌, ◌*ℤ◌, Some, None, Option, nat_lt}
use Rattle.std.specs.List.{slice_get}
use Rattle.model.specs.declared.Outcome.{Outcome}
use Rattle.model.specs.Histories.{final, Shown, History, Unfolds}
use Rattle.model.specs.Models.{Model}
use Rattle.refusal.specs.declared.Refusal.TheVariants.{NoSuchOutcome}
use Rattle.walk.specs.declared.Sight.{Sight}
use Rattle.walk.specs.declared.Step.{Step}
use Rattle.walk.specs.Turns.{Turn, goes, refuses, turned, choice_refusal}
use Rattle.walk.specs.Walker.{begun, chosen_in, reached, run, stands_at, walk_has}
use Rattle.weighing.specs.Discounts.{discount_of}

pub record Reckoner : Type 0 where
  pub history : List ℕ
  pub chosen : Option ℕ

-- first the start alone
abbrev pub begins : Model → Reckoner
begins g = record { history = g.start ∷ []; chosen = None }

-- a choice: refused at thirteen states, then where it is not offered after the record
abbrev pub reckon_choice : Shown → List ℕ → ℕ → Turn Reckoner
reckon_choice sh h a =
    turned (choice_refusal (nat_lt (length h) 13) (sh.offered h) a)
    (record { history = h; chosen = None }) (record { history = h; chosen = Some a })

-- a told outcome: refused where the open choice has none of that number, and else its target is appended
abbrev pub reckon_outcome : List ℕ → ℕ → Option Outcome → Turn Reckoner
reckon_outcome h a (Some o) = goes (record { history = h ++ (o.target ∷ []); chosen = None })
reckon_outcome h a None = refuses NoSuchOutcome (record { history = h; chosen = Some a })

abbrev pub reckon_by : Model → Shown → List ℕ → Option ℕ → ℕ → Turn Reckoner
reckon_by g sh h None n = reckon_choice sh h n
reckon_by g sh h (Some a) n = reckon_outcome h a (slice_get (g.outcomes (final h) a) n)

abbrev pub reckon_turn : Model → Shown → Reckoner → ℕ → Turn Reckoner
reckon_turn g sh r n = reckon_by g sh r.history r.chosen n

abbrev pub sum_below : (ℕ → ℤ) → ℕ → ℤ
sum_below f zero = pos 0
sum_below f (suc n) = sum_below f n +ℤ f n

-- what the beginning of a history that ends in slot i counts
abbrev pub counted_at : (ℕ → ℕ) → (List ℕ → ℤ) → List ℕ → ℕ → ℤ
counted_at discount reward h i = pos (discount i) *ℤ reward (take (i + 1) h)

-- the discounted rewards of the beginnings of a history
abbrev pub total_of : (ℕ → ℕ) → (List ℕ → ℤ) → List ℕ → ℤ
total_of discount reward h = sum_below (counted_at discount reward h) (length h)

abbrev pub reckoner_has : (ℕ → ℕ) → Shown → Reckoner → Sight
reckoner_has discount sh r = record {
  site = final r.history;
  slot = length r.history - 1;
  reward = sh.reward r.history;
  total = total_of discount sh.reward r.history;
}

-- what is told of a number: whether it was refused, and what the reckoner has after it
abbrev pub reckon_step : (ℕ → ℕ) → Shown → Turn Reckoner → Step
reckon_step discount sh t = record { refusal = t.refused; sight = reckoner_has discount sh t.next }

unfoldable pub reckon_run : (ℕ → ℕ) → Model → Shown → Reckoner → List ℕ → List Step
reckon_run discount g sh r [] = []
reckon_run discount g sh r (n ∷ ns) =
    reckon_step discount sh (reckon_turn g sh r n)
    ∷ reckon_run discount g sh (reckon_turn g sh r n).next ns

-- the reckoner after a list of numbers, and the record that he then keeps
unfoldable pub reckoned_after : Model → Shown → Reckoner → List ℕ → Reckoner
reckoned_after g sh r [] = r
reckoned_after g sh r (n ∷ ns) = reckoned_after g sh (reckon_turn g sh r n).next ns

abbrev pub record_after : Model → Shown → List ℕ → List ℕ
record_after g sh ns = (reckoned_after g sh (begins g) ns).history

-- a walk on m and the reckoner over g agree: at the opening, and through every list of numbers, accepted or not
pub record Agree (discount : ℕ → ℕ) (g : Model) (sh : Shown) (m : Model) : Type 0 where
  pub opening : walk_has m (begun discount m) ≡ reckoner_has discount sh (begins g)
  pub always : (ns : List ℕ)
      → run discount m (begun discount m) ns ≡ reckon_run discount g sh (begins g) ns

-- after the numbers ns a walk on m stands where the record of the reckoner over g leads, with the same choice open, and has what he has
pub record Beside (discount : ℕ → ℕ) (g : Model) (sh : Shown) (m : Model)
    (code : List ℕ → ℕ) (ns : List ℕ) : Type 0 where
  pub led : History g sh.offered (record_after g sh ns)
  pub stands : stands_at (reached discount m (begun discount m) ns) ≡ code (record_after g sh ns)
  pub chosen : chosen_in (reached discount m (begun discount m) ns)
      ≡ (reckoned_after g sh (begins g) ns).chosen
  pub has : walk_has m (reached discount m (begun discount m) ns)
      ≡ reckoner_has discount sh (reckoned_after g sh (begins g) ns)

abbrev pub StaysBeside : (ℕ → ℕ) → Model → Shown → Model → (List ℕ → ℕ) → Type 0
StaysBeside discount g sh m code = (ns : List ℕ) → Beside discount g sh m code ns

-- over every model that m unfolds
abbrev pub AgreesOverAll : Model → Type 0
AgreesOverAll m =
    (g : Model) (sh : Shown) (code : List ℕ → ℕ) → Unfolds g sh m code → Agree discount_of g sh m

abbrev pub BesideOverAll : Model → Type 0
BesideOverAll m =
    (g : Model) (sh : Shown) (code : List ℕ → ℕ)
    → Unfolds g sh m code → StaysBeside discount_of g sh m code
