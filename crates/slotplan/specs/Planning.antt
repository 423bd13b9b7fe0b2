-- What planning on a pile comes to, in tables that hold the largest plan: the plan, whole; or
-- more states are reachable than a book holds; or else the horizon has more slots than a plan. Memory may run out only where neither is so.
use Rattle.std.specs.Prelude.{◌≡◌, ⊤, ◌⊎◌, ℕ, ◌<◌, ◌≤◌, Ok, Err, Result}
use Rattle.model.specs.Models.{Model}
use Rattle.pilemodel.specs.Piles.{Piling}
use Rattle.promise.specs.WholePlan.{IsPlanOf}
use Rattle.promise.specs.declared.causes.Unplanned.{Unplanned}
use Rattle.promise.specs.declared.causes.Unplanned.TheVariants.{Refused, Memory}
use Rattle.promise.specs.declared.plans.Plan.{Plan}
use Rattle.reach.specs.Reached.{MoreThan}
use Rattle.refusal.specs.declared.Refusal.{Refusal}
use Rattle.refusal.specs.declared.Refusal.TheVariants.{TooManyStates, HorizonTooLong}
use Rattle.slotplan.specs.declared.WeighBy.{WeighBy}
use Rattle.slotplan.specs.declared.WeighBy.TheVariants.{Mean, Worst}
use Rattle.weighmodel.specs.Weighings.{Weigh, mean, worst}
use Rattle.writeout.specs.Tables.{Writable}

-- the weighing that is asked for
abbrev pub weigh_of : WeighBy → Weigh
weigh_of Mean = mean
weigh_of Worst = worst

-- why a plan of so many slots is refused: too many states come before too many slots
abbrev pub RefusedFor : Model → ℕ → Refusal → Type 0
RefusedFor m horizon r =
    ((r ≡ TooManyStates) × MoreThan m 4096)
    ⊎ ((r ≡ HorizonTooLong) × (Writable m × (12 < horizon)))

-- the answer of the test that comes before anything is allocated
abbrev pub Surveyed : Model → ℕ → Result ⊤ Refusal → Type 0
Surveyed m horizon (Ok u) = Writable m × (horizon ≤ 12)
Surveyed m horizon (Err r) = RefusedFor m horizon r

abbrev pub PlansOr : Weigh → Piling → ℕ → Result Plan Unplanned → Type 0
PlansOr w pile horizon (Ok p) = IsPlanOf w pile horizon p
PlansOr w pile horizon (Err (Refused r)) = RefusedFor pile.model horizon r
PlansOr w pile horizon (Err (Memory e)) = Writable pile.model × (horizon ≤ 12)
