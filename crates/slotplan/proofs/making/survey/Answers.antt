use Rattle.std.proofs.Common.{◌≡◌, Err, sym, subst, inl, rules}
use Rattle.slotplan.specs.Planning.{Surveyed}
use Rattle.slotplan.proofs.making.survey.Goals as goal

pub returns-in_err-check_states : goal.returns-in_err-check_states
returns-in_err-check_states g c =
    let why = c.in_err-check_states.field-0.0 in
    let over = c.in_err-check_states.ensures in
    let is : c.from_residual.result ≡ Err why = search rules in
    subst (Surveyed (g.P.SiteModel.meaning c.args.pile.now) c.args.horizon) (sym is) (inl over)
