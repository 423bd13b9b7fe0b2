-- Judging the nodes that are left gives what judging all gives.
use Rattle.std.proofs.Common.{◌≡◌, length, take, drop}
use Rattle.layermodel.specs.Verdicts.{recalled_by, verdicts_from, verdicts}
use Rattle.layermodel.proofs.verdicts.truths.Given as goal

abbrev pub invariant-loop-i : goal.invariant-loop-i
invariant-loop-i l =
    let r = recalled_by l.recalled in
    (verdicts_from l.mask r (take l.i l.known) (drop l.i l.nodes) ≡ verdicts l.mask r l.nodes) × (length l.known ≡ 128)
