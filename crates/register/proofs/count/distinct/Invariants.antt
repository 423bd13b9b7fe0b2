-- The register holds what the keys so far come to, over the same table, whose rest is as it was.
use Rattle.std.proofs.Common.{◌≡◌, [], length, take, drop}
use Rattle.register.specs.Keys.{enter_all}
use Rattle.register.specs.Register.{keys_of}
use Rattle.register.proofs.count.distinct.Given as goal

abbrev pub invariant-loop-key : goal.invariant-loop-key
invariant-loop-key g l =
    (keys_of l.register ≡ enter_all g.K.PartialEq.eq [] (take l.key-index l.keys))
    × (drop l.register.len l.register.keys.now ≡ drop l.register.len l.initial.register.keys.now)
    × (length l.register.keys.now ≡ length l.initial.register.keys.now)
    × (l.register.keys.ghost_name ≡ l.initial.register.keys.ghost_name)
