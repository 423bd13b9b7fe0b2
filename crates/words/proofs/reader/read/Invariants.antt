use Rattle.std.proofs.Common.{◌≡◌, ◌+◌, ◌*◌, length}
use Rattle.words.specs.Format.{reading, run}
use Rattle.words.proofs.reader.read.Given as goal

-- the draft follows one of the format, from which reading on gives the whole answer
abbrev pub invariant-loop-word : goal.invariant-loop-word
invariant-loop-word g l =
    (4 * l.place + length l.rest ≡ length l.bytes)
    × ((s : g.D.Draft.Words) × (g.D.Draft.Follows l.draft s × (reading g.D.Draft.format l.bytes ≡ run g.D.Draft.format s l.place l.rest)))

abbrev pub decreases-loop-word : goal.decreases-loop-word
decreases-loop-word g l = length l.rest
