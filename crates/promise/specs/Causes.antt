-- Why no plan was made, where the book that was written could not be read back.
use Rattle.promise.specs.declared.causes.Unplanned.{Unplanned}
use Rattle.promise.specs.declared.causes.Unplanned.TheVariants as unplanned
use Rattle.refusal.specs.declared.Unread.{Unread}
use Rattle.refusal.specs.declared.Unread.TheVariants.{Refused, Memory}

abbrev pub unread_as : Unread → Unplanned
unread_as (Refused f) = unplanned.Refused f.refusal
unread_as (Memory e) = unplanned.Memory e

-- memory ran out, and nothing was refused
abbrev pub OutOfMemory : Unplanned → Type 0
OutOfMemory (unplanned.Memory e) = Unit {0}
OutOfMemory (unplanned.Refused r) = ⊥
