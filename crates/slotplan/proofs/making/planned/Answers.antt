use Rattle.std.proofs.Common.{◌≡◌, length, rules}
use Rattle.promise.specs.declared.plans.Tables.{Tables}
use Rattle.promise.proofs.Promising.{on_meaning}
use Rattle.slotplan.proofs.Planning.{plan_told}
use Rattle.slotplan.proofs.making.planned.Goals as goal

pub returns : goal.returns
returns g c =
    let m = g.P.SiteModel.meaning c.args.pile.now in
    let pile = g.P.Pile.piling c.args.pile.now in
    let laid = g.met.P.Pile.laid c.args.pile.now in
    let codes : length c.as_mut_slice.result.now ≡ 4096 = search rules in
    let bytes : length c.as_mut_slice-2.result.now ≡ 1212424 = search rules in
    let worths : length c.as_mut_slice-3.result.now ≡ 53248 = search rules in
    let choices : length c.as_mut_slice-4.result.now ≡ 49152 = search rules in
    let tables : Tables = record { codes = c.as_mut_slice.result; bytes = c.as_mut_slice-2.result; worths = c.as_mut_slice-3.result; choices = c.as_mut_slice-4.result } in
    plan_told (g.W.Weighing.meaning c.args.weighing.now) pile m laid.means c.args.horizon tables c.plan_pile.result (g.met.P.SiteModel.lawful c.args.pile.now) (on_meaning m pile laid c.plan_pile.ensures.pile).represents c.in_ok-survey.ensures.0 c.in_ok-survey.ensures.1 codes bytes worths choices c.plan_pile.ensures.answer c.plan_pile.ensures.plan
