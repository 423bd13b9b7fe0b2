use Rattle.std.proofs.Common.{◌≡◌, length, Err, sym, subst, arith, rules}
use Rattle.reach.specs.Adding.{room_in}
use Rattle.reach.specs.Reached.{MoreThan}
use Rattle.slotplan.specs.Writing.{StatesChecked}
use Rattle.slotplan.proofs.written.check_states.Goals as goal

pub returns-in_err-search : goal.returns-in_err-search
returns-in_err-search g c =
    let m = g.P.SiteModel.meaning c.args.pile.now in
    let why = c.in_err-search.field-0.0 in
    let over = c.in_err-search.ensures.answer in
    let size : length c.new-found.result.keys.now ≡ 4096 = search rules in
    let room : room_in (length c.new-found.result.keys.now) ≡ 4096 = omega (arith, size) in
    let is : c.from_residual.result ≡ Err why = search rules in
    subst (StatesChecked m) (sym is) (over.0, subst (MoreThan m) room over.2)
