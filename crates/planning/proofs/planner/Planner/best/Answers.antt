use Rattle.std.proofs.Common.{◌≡◌, ℕ, pos, get_or, sym, ap, ◌∙◌, w64, to_z, of_z}
use Rattle.std.proofs.lemmas.Int.{to_z-of_z}
use Rattle.weighmodel.proofs.Holding.{within_fits64}
use Rattle.worth.specs.Worths.{better, joined}
use Rattle.planning.proofs.Entries.{pick_more, pick_past}
use Rattle.planning.proofs.planner.Planner.best.Goals as goal
use Rattle.planning.proofs.planner.Planner.best.Goals.{then-offers, else-offers}

pub loop-action-preserved : goal.loop-action-preserved
loop-action-preserved g c =
    let m = g.M.SiteModel.meaning c.args.self.now.model.now in
    let w = g.W.Weighing.meaning c.args.self.now.weighing.now in
    let s = c.args.state in
    let a = c.loop-action.action in
    let below = λ (t : ℕ). get_or c.args.below.now t (pos 0) in
    let values = λ (b : ℕ). joined w below (m.outcomes s b) in
    elim c.if-offers.branch [
      | then-offers u ↦
          (let v = u.joined-value.result in
          let value : to_z w64 (of_z w64 v) ≡ values a =
          to_z-of_z w64 v (within_fits64 v u.joined-value.ensures.held) ∙ u.joined-value.ensures.value ∙ ap (joined w below) u.outcomes.ensures.outcomes in
          u.best-is ∙ pick_more (m.offered s) values a c.loop-action.best u.better-best.result c.loop-action.invariant (sym c.offers.ensures.offered ∙ u.if-offers.true) (u.better-best.ensures ∙ ap (better c.loop-action.best a) value))
      | else-offers u ↦ u.best-is ∙ pick_past (m.offered s) values a c.loop-action.best c.loop-action.invariant (sym c.offers.ensures.offered ∙ u.if-offers.false)
    ]
