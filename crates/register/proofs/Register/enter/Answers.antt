use Rattle.std.proofs.Common.{ℕ, ◌+◌, ◌<◌, length, take, set, ap, subst, arith}
use Rattle.std.proofs.lemmas.List.{length-set}
use Rattle.register.specs.Chains.{Chained, buckets}
use Rattle.register.specs.Keys.{Equal, DistinctBy}
use Rattle.register.proofs.Latest.{chained_entry}
use Rattle.register.proofs.Table.{written_distinct}
use Rattle.register.proofs.Register.enter.Goals as goal

pub invariant_of-self : goal.invariant_of-self
invariant_of-self g c =
    let s = c.args.self.now in
    let xs = s.keys.now in
    let n = s.len in
    let k = c.args.key in
    let l : n < length xs = omega arith in
    record {
      fits = omega (arith, length-set xs n k);
      apart =
          subst (λ (m : ℕ). DistinctBy (Equal g.K.PartialEq.eq) (take m (set xs n k))) (omega arith)
          (written_distinct g.K.PartialEq.eq g.met.K.Eq.laws k xs n l c.in_default.ensures s.apart);
      chained =
          chained_entry g.K.Key.bucket xs k n s.chains.heads s.chains.earlier c.link.new.self.heads c.link.new.self.earlier l s.chained
          (λ few m old. subst (λ b. Chained c.link.new.self.heads c.link.new.self.earlier (set (buckets g.K.Key.bucket xs) n b) (n + 1)) c.bucket_of.ensures.bucket (c.link.ensures.linked (buckets g.K.Key.bucket xs) few m old))
          (λ many. let same = c.link.ensures.full many in (ap (λ h. h.heads) same, ap (λ h. h.earlier) same));
    }
