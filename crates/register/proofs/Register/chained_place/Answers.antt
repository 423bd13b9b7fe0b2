use Rattle.std.proofs.Common.{get_or, min, sym, ap, ◌∙◌, arith}
use Rattle.register.specs.Chains.{bucket_in, buckets}
use Rattle.register.proofs.Search.{tells, sought_first, chained_back}
use Rattle.register.proofs.Register.chained_place.Goals as goal

pub loop-at-init : goal.loop-at-init
loop-at-init g c =
    let s = c.args.self.now in
    let number = g.K.Key.bucket in
    let b = bucket_in number c.args.key.now in
    sought_first g.K.PartialEq.eq s.keys.now (buckets number s.keys.now) (min s.len 4096) c.args.key.now b
    (λ q l e. tells g.K.PartialEq.eq number g.met.K.Key.shares_bucket s.keys.now c.args.key.now q (omega (arith, s.fits)) e)
    (get_or s.chains.heads c.bucket_of.result 0)
    (ap (λ i. get_or s.chains.heads i 0) c.bucket_of.ensures.bucket ∙ s.chained.last b (omega arith))

pub loop-at-smaller : goal.loop-at-smaller
loop-at-smaller g c =
    let s = c.args.self.now in
    (chained_back g.K.PartialEq.eq g.met.K.Eq.laws g.K.Key.bucket g.met.K.Key.shares_bucket s.keys.now s.chains.heads s.chains.earlier c.args.key.now c.index-keys-place.result s.len c.loop-at.at s.fits s.chained c.loop-at.invariant (omega arith) c.index-keys-place.is (sym c.eq.ensures ∙ c.if-eq.false)).0

pub loop-at-preserved : goal.loop-at-preserved
loop-at-preserved g c =
    let s = c.args.self.now in
    (chained_back g.K.PartialEq.eq g.met.K.Eq.laws g.K.Key.bucket g.met.K.Key.shares_bucket s.keys.now s.chains.heads s.chains.earlier c.args.key.now c.index-keys-place.result s.len c.loop-at.at s.fits s.chained c.loop-at.invariant (omega arith) c.index-keys-place.is (sym c.eq.ensures ∙ c.if-eq.false)).1
