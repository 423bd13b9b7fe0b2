-- What the states of a walk in memory stand for, and what the calls answer.
use Rattle.std.specs.Prelude.{Ok, Err, Result}
use Rattle.walk.specs.declared.Refused.{Refused}
use Rattle.walk.specs.declared.Sight.{Sight}
use Rattle.walk.specs.declared.states.Chosen.{Chosen}
use Rattle.walk.specs.declared.states.Standing.{Standing}
use Rattle.walk.specs.declared.walker.Turned.{Turned}
use Rattle.walk.specs.declared.walker.Walker.{Walker}
use Rattle.walk.specs.declared.walker.Walker.TheVariants as walker
use Rattle.walk.specs.Turns.{Turn, goes, refuses}
use Rattle.walk.specs.Walker.{Stand, Walk, standing, choosing}

abbrev pub stand_of : Standing → Stand
stand_of s = record { state = s.state; slot = s.slot; total = s.total }

abbrev pub from_of : Chosen → Stand
from_of c = stand_of c.standing

abbrev pub walk_of : Walker → Walk
walk_of (walker.Standing s) = standing (stand_of s)
walk_of (walker.Chosen c) = choosing (from_of c) c.action

abbrev pub choice_of : Result Chosen (Refused Standing) → Turn Walk
choice_of (Ok c) = goes (choosing (from_of c) c.action)
choice_of (Err r) = refuses r.refusal (standing (stand_of r.walk))

abbrev pub telling_of : Result Standing (Refused Chosen) → Turn Walk
telling_of (Ok s) = goes (standing (stand_of s))
telling_of (Err r) = refuses r.refusal (choosing (from_of r.walk) r.walk.action)

abbrev pub turn_of : Turned → Turn Walk
turn_of t = record { refused = t.refusal; next = walk_of t.walker }

-- the end of a walk, or the walk where it cannot end
abbrev pub ending_of : Result Sight Walker → Result Sight Walk
ending_of (Ok s) = Ok s
ending_of (Err w) = Err (walk_of w)
