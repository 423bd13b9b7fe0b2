use Rattle.std.proofs.Common.{◌≡◌, length, min, rules, arith}
use Rattle.register.specs.Register.{keys_of}
use Rattle.register.proofs.Search.{placed, both_parts}
use Rattle.register.proofs.Register.place.Goals as goal

pub returns-in-Some : goal.returns-in-Some
returns-in-Some g c =
    let s = c.args.self.now in
    let size : length (keys_of s) ≡ s.len = search rules in
    placed g.K.PartialEq.eq g.met.K.Eq.laws c.args.key.now (keys_of s) 0 (min s.len 4096) c.in-Some.place s.apart (omega (arith, size)) c.in-Some.ensures

pub returns : goal.returns
returns g c =
    let s = c.args.self.now in
    let size : length (keys_of s) ≡ s.len = search rules in
    both_parts g.K.PartialEq.eq g.met.K.Eq.laws c.args.key.now (keys_of s) s.len size s.apart c.in_default.ensures c.later_place.result c.later_place.ensures
