-- Marking the rest gives what marking all gives.
use Rattle.std.proofs.Common.{◌≡◌, drop}
use Rattle.formula.specs.Resting.{all_marked}
use Rattle.formula.proofs.resting.mark_all.Given as goal

abbrev pub invariant-loop-place : goal.invariant-loop-place
invariant-loop-place l = all_marked l.marks (drop l.place-index l.places) ≡ all_marked l.initial.marks l.places
