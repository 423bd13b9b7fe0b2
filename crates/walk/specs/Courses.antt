-- A walk through numbers that are known beforehand: what it has at its opening and at its end, and whether it closes there. It does not
-- where an outcome of the open choice is missing.
use Rattle.std.specs.Prelude.{◌≡◌, ℕ, not, List, is_none}
use Rattle.model.specs.Histories.{Shown}
use Rattle.model.specs.Models.{Model}
use Rattle.walk.specs.declared.Course.{Course}
use Rattle.walk.specs.Reckoner.{begins, reckoned_after, reckoner_has}
use Rattle.walk.specs.Walker.{begun, is_choosing, reached, walk_has}

-- by the walk on the model m
pub record CourseOn (discount : ℕ → ℕ) (m : Model) (numbers : List ℕ) (c : Course) : Type 0 where
  pub opening : c.opening ≡ walk_has m (begun discount m)
  pub last : c.last ≡ walk_has m (reached discount m (begun discount m) numbers)
  pub closed : c.closed ≡ not (is_choosing (reached discount m (begun discount m) numbers))

-- by the reckoner over the ground model g, with what is shown
pub record ReckonedCourse (discount : ℕ → ℕ) (g : Model) (sh : Shown)
    (numbers : List ℕ) (c : Course) : Type 0 where
  pub opening : c.opening ≡ reckoner_has discount sh (begins g)
  pub last : c.last ≡ reckoner_has discount sh (reckoned_after g sh (begins g) numbers)
  pub closed : c.closed ≡ is_none (reckoned_after g sh (begins g) numbers).chosen
