use Rattle.std.proofs.Common.{◌+◌, ◌*◌, ◌^◌, sym, ◌∙◌}
use Rattle.layermodel.specs.Verdicts.{bit}
use Rattle.layermodel.proofs.Places.{bits_of-more}
use Rattle.layermodel.proofs.remembering.number.Goals as goal

pub loop-place-preserved : goal.loop-place-preserved
loop-place-preserved g c =
    let place = c.loop-place.place in
    let item = c.index-items-place.result in
    record {
      value = λ p agrees.
          c.with_bit-bits.ensures.value
          ∙ (λ k. c.loop-place.invariant.value p agrees k + 2 ^ place * bit (agrees item c.holds.result c.holds.ensures k))
          ∙ sym (bits_of-more p c.args.items.now place item c.loop-place-test.true c.index-items-place.is);
      small = c.with_bit-bits.ensures.small;
    }
