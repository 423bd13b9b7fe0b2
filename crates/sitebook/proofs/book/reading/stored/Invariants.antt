use Rattle.std.proofs.Common.{◌≡◌, ◌+◌, ◌*◌, length}
use Rattle.sitebook.specs.Storing.{held_by}
use Rattle.sitebook.proofs.Storing.{Storing}
use Rattle.sitebook.proofs.book.reading.stored.Given as goal

-- the tables follow a draft, from which reading on gives the book
abbrev pub invariant-loop-word : goal.invariant-loop-word
invariant-loop-word l = (4 * l.place + length l.rest ≡ length l.bytes) × Storing l.bytes l.rest l.place l.counts (held_by l.store)

abbrev pub decreases-loop-word : goal.decreases-loop-word
decreases-loop-word l = length l.rest
