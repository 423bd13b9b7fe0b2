-- No worth is held back at the size that is returned.
use Rattle.std.proofs.Common.{refl}
use Rattle.worth.proofs.Unheld.{nothing_held_back}
use Rattle.worth.proofs.largest_worth.Goals as goal

pub returns : goal.returns
returns c = record { value = refl; free = nothing_held_back }
