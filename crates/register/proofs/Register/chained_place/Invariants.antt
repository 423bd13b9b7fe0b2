use Rattle.std.proofs.Common.{min}
use Rattle.register.specs.Chains.{bucket_in, buckets}
use Rattle.register.proofs.Search.{Sought}
use Rattle.register.proofs.Register.chained_place.Given as goal

abbrev pub invariant-loop-at : goal.invariant-loop-at
invariant-loop-at g l = Sought g.K.PartialEq.eq l.self.keys.now (buckets g.K.Key.bucket l.self.keys.now) (min l.self.len 4096) l.key (bucket_in g.K.Key.bucket l.key) l.at

abbrev pub decreases-loop-at : goal.decreases-loop-at
decreases-loop-at g l = l.at
