-- The register holds the nodes of the words so far, and their numbers are listed.
use Rattle.std.proofs.Common.{◌≡◌, length}
use Rattle.bounded.specs.Listed.{listed}
use Rattle.register.specs.Register.{keys_of}
use Rattle.formula.proofs.Tables.{Reached}
use Rattle.formula.proofs.merging.merge_many.Given as goal

abbrev pub invariant-loop-word : goal.invariant-loop-word
invariant-loop-word l = record {
  reached : Reached l.words (keys_of l.register) (listed l.numbers) l.word-index;
  room : length l.register.keys.now ≡ 128;
}
