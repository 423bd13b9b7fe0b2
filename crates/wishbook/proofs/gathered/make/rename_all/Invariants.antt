use Rattle.std.proofs.Common.{◌≡◌, map, take}
use Rattle.bounded.specs.Listed.{listed}
use Rattle.wishbook.specs.Book.{renamed}
use Rattle.wishbook.proofs.gathered.make.rename_all.Given as goal

abbrev pub invariant-loop-wish : goal.invariant-loop-wish
invariant-loop-wish l = listed l.all ≡ map (renamed l.numbers) (take l.wish-index l.wish-items)
