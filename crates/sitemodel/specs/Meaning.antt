-- The site model that a book is: its states are the numbers below the count of its marks, and each is its own ground.
-- A number that is no state has the blank mark, and offers nothing.
use Rattle.std.specs.Prelude.{ℕ, ◌+◌, ◌*◌, not, ◌&&◌, List, [], map, length, pos, ◌-ℤ◌, nat_lt, slice_index_or, if◌then◌else◌}
use Rattle.model.specs.declared.Outcome.{Outcome}
use Rattle.model.specs.Models.{Model}
use Rattle.words.specs.Tests.{none}
use Rattle.sitelayout.specs.declared.Mark.{Mark}
use Rattle.sitelayout.specs.declared.Move.{Move}
use Rattle.sitelayout.specs.Site.{Site}
use Rattle.siteverdict.specs.Counting.{bound_of}

-- no label, no reward, origin 0
abbrev pub blank : Mark
blank = record { mask = 0; worth = record { raised = 2000; origin = 0 } }

abbrev pub mark_at : Site → ℕ → Mark
mark_at b s = slice_index_or b.marks s blank

-- the outcomes of an action in a state
abbrev pub cell_at : Site → ℕ → ℕ → List Move
cell_at b s a =
    if nat_lt s (length b.marks)
    && nat_lt a b.actions then slice_index_or b.cells (s * b.actions + a) [] else []

abbrev pub outcome_of : Move → Outcome
outcome_of m = record { target = m.target; weight = m.weight }

-- the origin that a state carries, 0 for any other number
abbrev pub origin_of : Site → ℕ → ℕ
origin_of b s = (mark_at b s).worth.origin

abbrev pub site_model : Site → Model
site_model b = record {
  start = 0;
  state = λ s. nat_lt s (length b.marks);
  mask = λ s. (mark_at b s).mask;
  reward = λ s. pos (mark_at b s).worth.raised -ℤ pos 2000;
  site = λ s. if nat_lt s (length b.marks) then s else 0;
  offered = λ s a. not (none (cell_at b s a));
  outcomes = λ s a. map outcome_of (cell_at b s a);
  labels = b.labels;
  actions = b.actions;
  bound = bound_of b.marks;
  span = length b.marks;
}
