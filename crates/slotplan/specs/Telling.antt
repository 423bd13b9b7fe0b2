-- In how many parts of a reward a plan's worth counts: the first slot's discount, and the unit once more for each slot.
use Rattle.std.specs.Prelude.{ℕ, ◌*◌, ◌^◌}
use Rattle.promise.specs.declared.plans.Plan.{Plan}

abbrev pub parts_of_plan : Plan → ℕ
parts_of_plan p = 256 * p.unit ^ p.horizon
