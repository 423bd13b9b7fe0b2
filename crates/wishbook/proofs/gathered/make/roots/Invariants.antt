use Rattle.std.proofs.Common.{◌≡◌, map, take}
use Rattle.bounded.specs.Listed.{listed}
use Rattle.wishbook.proofs.gathered.make.roots.Given as goal

abbrev pub invariant-loop-wish : goal.invariant-loop-wish
invariant-loop-wish l = listed l.all ≡ map (λ w. w.node) (take l.wish-index l.wish-items)
