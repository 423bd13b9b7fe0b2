-- The codes are those listed after so many turns, none of which went past the codes.
use Rattle.std.proofs.Common.{◌≡◌, ◌-◌, ◌≤◌, length}
use Rattle.register.specs.Register.{keys_of}
use Rattle.reach.specs.Adding.{Onto}
use Rattle.reach.specs.Search.{listed_after}
use Rattle.reach.proofs.search.Given as goal

abbrev pub invariant-loop-state : goal.invariant-loop-state
invariant-loop-state g l =
    (keys_of l.codes ≡ listed_after (g.M.SiteModel.meaning l.m) l.place)
    × (l.place ≤ length (keys_of l.codes))
    × (l.codes.len ≤ 4096)
    × Onto l.initial.codes l.codes

abbrev pub decreases-loop-state : goal.decreases-loop-state
decreases-loop-state g l = 4096 - l.place
