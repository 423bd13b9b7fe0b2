use Rattle.std.proofs.Common.{◌≡◌, ℤ, pos, get_or, sym, ap, ◌∙◌, w64, to_z, of_z}
use Rattle.std.proofs.lemmas.Int.{to_z-of_z}
use Rattle.std.proofs.lemmas.List.Sums.{fold_more}
use Rattle.model.specs.declared.Outcome.{Outcome}
use Rattle.weighmodel.proofs.Holding.{within_fits64}
use Rattle.planning.proofs.planner.Planner.joined.Goals as goal

pub loop-way-preserved : goal.loop-way-preserved
loop-way-preserved g c =
    let w = g.W.Weighing.meaning c.args.self.now.weighing.now in
    let os = c.as_slice-way-items.result.now in
    let i = c.loop-way.way-index in
    let d : Outcome = record { target = 0; weight = 0 } in
    let y = c.joined_on-so_far.result in
    let told = c.joined_on-so_far.ensures in
    let step = λ (x : ℤ) (o : Outcome). w.join x o.weight (get_or c.args.below.now o.target (pos 0)) in
    let same : to_z w64 (of_z w64 y) ≡ y = to_z-of_z w64 y (within_fits64 y told.held) in
    record {
      value = same ∙ told.value ∙ ap (λ x. step x (get_or os i d)) c.loop-way.invariant.value ∙ sym (fold_more step w.first os i d c.loop-way-test.true);
      held = rw same told.held;
    }
