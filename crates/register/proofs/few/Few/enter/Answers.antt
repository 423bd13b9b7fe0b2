use Rattle.std.proofs.Common.{◌<◌, length, arith}
use Rattle.std.proofs.lemmas.List.{length-set}
use Rattle.register.proofs.Table.{written_distinct}
use Rattle.register.proofs.few.Few.enter.Goals as goal

pub invariant_of-self : goal.invariant_of-self
invariant_of-self g c =
    let s = c.args.self.now in
    let xs = s.keys.now in
    let n = s.len in
    let k = c.args.key in
    let l : n < length xs = omega arith in
    record {
      fits = omega (arith, length-set xs n k);
      apart = written_distinct g.K.PartialEq.eq g.met.K.Eq.laws k xs n l c.in_default.ensures s.apart;
    }
