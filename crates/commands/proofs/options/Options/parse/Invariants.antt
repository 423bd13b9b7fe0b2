-- The options hold what stands before the rest.
use Rattle.std.proofs.Common.{length, map}
use Rattle.std.specs.Prelude.{string_bytes}
use Rattle.commands.proofs.Taking.{Before}
use Rattle.commands.proofs.options.Options.parse.Given as goal

abbrev pub invariant-loop-word : goal.invariant-loop-word
invariant-loop-word l = Before (map string_bytes l.words) (map string_bytes l.rest) l.options

abbrev pub decreases-loop-word : goal.decreases-loop-word
decreases-loop-word l = length l.rest
