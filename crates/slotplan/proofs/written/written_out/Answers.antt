use Rattle.std.proofs.Common.{◌≡◌, ◌*◌, length, take, sym, ap, ◌∙◌, arith, rules}
use Rattle.std.proofs.lemmas.List.{take_at}
use Rattle.writeout.proofs.Outcomes.{wrote}
use Rattle.promise.proofs.Promising.{on_meaning}
use Rattle.slotplan.proofs.Holding.{held, passed}
use Rattle.slotplan.proofs.written.written_out.Goals as goal

pub overflow_mul-written : goal.overflow_mul-written
overflow_mul-written g c =
    let m = g.P.SiteModel.meaning c.args.pile.now in
    let size : length c.as_mut_slice-2.result.now ≡ 1212424 = search rules in
    let out = wrote m _ _ c.in-Ok.written (sym c.write_pile.ensures.answer ∙ c.in-Ok.is) in
    omega (arith, size, out.room, out.words)

pub returns-in-Ok-clause-holds : goal.returns-in-Ok-clause-holds
returns-in-Ok-clause-holds g c =
    let m = g.P.SiteModel.meaning c.args.pile.now in
    let w = c.in-Ok.written in
    let told = c.write_pile.ensures in
    let h = held m w c.write_pile.result c.write_pile.new.codes c.write_pile.new.bytes _ _ c.in-Ok.is told.answer told.codes told.bytes in
    let codes : length c.write_pile.new.codes ≡ c.in_ok-codes.codes.len = search rules in
    let bytes : length c.write_pile.new.bytes ≡ c.in_ok-bytes.bytes.len = search rules in (
      h.0,
      (
        c.truncate.ensures.items ∙ ap (take w.states) (take_at c.write_pile.new.codes _ _ codes) ∙ h.1.0,
        c.truncate-in-Ok.ensures.items ∙ ap (take (4 * w.words)) (take_at c.write_pile.new.bytes _ _ bytes) ∙ h.1.1,
      ),
    )

pub returns-in-Err-write_pile-clause-holds : goal.returns-in-Err-write_pile-clause-holds
returns-in-Err-write_pile-clause-holds g c =
    let codes : length c.as_mut_slice.result.now ≡ 4096 = search rules in
    let bytes : length c.as_mut_slice-2.result.now ≡ 1212424 = search rules in
    let told = c.write_pile.ensures in
    let over = passed (g.P.SiteModel.meaning c.args.pile.now) (g.met.P.SiteModel.lawful c.args.pile.now) c.in-Err-write_pile.refusal c.write_pile.result _ _ codes bytes c.in-Err-write_pile.is told.answer in
    (over.0, (on_meaning _ _ (g.met.P.Pile.laid c.args.pile.now) told.pile).represents.exceeds 4096 over.1)
