use Rattle.std.proofs.Common.{◌∙◌, rules}
use Rattle.register.specs.Register.{keys_of}
use Rattle.register.proofs.Counting.{counted, refused, stepped}
use Rattle.register.proofs.count.distinct.Goals as goal

pub returns : goal.returns
returns g c =
    let inv = c.loop-key.invariant in
    counted g.K.PartialEq.eq g.met.K.Eq.laws c.args.keys.now c.new-register.result.keys.now c.args.table.now c.loop-key.register.keys.now c.loop-key.register.len c.loop-key.key-index _
    c.loop-key.register.fits
    c.loop-key-test.false
    inv.0
    inv.1
    c.new-register.ensures.table
    (search rules)
    _
    (search rules)

pub returns-in_err-enter : goal.returns-in_err-enter
returns-in_err-enter g c =
    let inv = c.loop-key.invariant in
    let told = c.in_err-enter.ensures in
    refused g.K.PartialEq.eq c.args.keys.now c.new-register.result.keys.now c.args.table.now (keys_of c.loop-key.register) c.loop-key.register.keys.now c.enter.new.self.keys.now c.enter.new.self.len c.loop-key.key-index c.key-item.result
    c.loop-key-test.true
    c.key-item.is
    inv.0
    told.answer
    c.enter.new.self.fits
    told.room
    inv.2
    c.new-register.ensures.table
    _
    (search rules)
    c.from_residual.result
    c.from_residual.ensures

pub loop-key-preserved : goal.loop-key-preserved
loop-key-preserved g c =
    let inv = c.loop-key.invariant in
    let told = c.in_ok-enter.ensures in
    let step =
    stepped g.K.PartialEq.eq c.args.keys.now c.new-register.result.keys.now c.loop-key.register.keys.now c.enter.new.self.keys.now c.loop-key.register.len c.enter.new.self.len c.loop-key.key-index c.key-item.result
    c.loop-key.register.fits
    c.enter.new.self.fits
    c.loop-key-test.true
    c.key-item.is
    inv.0
    told.answer.1
    inv.1
    told.rest in
    (step.0, step.1, told.room ∙ inv.2, told.lent ∙ inv.3)
