use Rattle.std.proofs.Common.{◌≡◌, ◌+◌, ◌-◌, ◌*◌, ◌<◌, ◌≤◌, length, set, sym, ap, ◌∙◌, subst, arith, w64, to_z, of_z, rules, add-one, suc-mul}
use Rattle.planning.specs.Plans.{choice_at, Filled, worth_at}
use Rattle.planning.proofs.Filling.{filled_more}
use Rattle.planning.proofs.planner.Planner.fill.Goals as goal
use Rattle.planning.proofs.planner.Planner.fill.Goals.{then-place-states, else-place-states}

pub loop-place-preserved : goal.loop-place-preserved
loop-place-preserved g c =
    let m = g.M.SiteModel.meaning c.args.self.now.model.now in
    let w = g.W.Weighing.meaning c.args.self.now.weighing.now in
    let h = c.args.self.now.horizon in
    let p = c.loop-place.place in
    let states = c.count-states.ensures.count in
    let inv = c.loop-place.invariant in
    let told = c.entry-entry.ensures in
    let f = choice_at w m h in
    let xs = c.args.choices.now in
    let value : to_z w64 (of_z w64 c.entry-entry.result.value) ≡ c.entry-entry.result.value = search rules in
    let rows : (h + 1) * c.count-states.result ≡ h * m.span + m.span = ap (λ n. (h + 1) * n) states ∙ ap (λ k. k * m.span) (add-one h) ∙ suc-mul h m.span in
    let all : (h + 1) * m.span ≡ h * m.span + m.span = ap (λ k. k * m.span) (add-one h) ∙ suc-mul h m.span in
    let room : p < length c.loop-place.worths = omega (arith, rows, all) in
    record {
      worths = filled_more (worth_at w m h) p c.args.worths.now c.loop-place.worths (to_z w64 (of_z w64 c.entry-entry.result.value)) inv.worths room (value ∙ told.entry.worth);
      choices =
          elim c.if-place-states.branch [
            | then-place-states u ↦
                (let past : m.span ≤ p = omega arith in
                let inside : p - m.span < length c.loop-place.choices = omega (arith, rows) in
                let place : p - m.span ≡ p - c.count-states.result = ap (λ n. p - n) (sym states) in
                let next : p - m.span + 1 ≡ p + 1 - m.span = omega arith in
                subst (Filled f (p + 1 - m.span) xs) (ap (λ n. set c.loop-place.choices n c.entry-entry.result.action) place ∙ sym u.choices-is)
                (subst (λ n. Filled f n xs (set c.loop-place.choices (p - m.span) c.entry-entry.result.action)) next
                (filled_more f (p - m.span) xs c.loop-place.choices c.entry-entry.result.action inv.choices inside (told.entry.choice past))))
            | else-place-states u ↦
                (let none : p - m.span ≡ p + 1 - m.span = omega arith in
                subst (Filled f (p + 1 - m.span) xs) (sym u.choices-is) (subst (λ n. Filled f n xs c.loop-place.choices) none inv.choices))
          ];
    }
