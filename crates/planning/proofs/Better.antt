-- The choices in the table, as a policy over histories, are the best. For others: `nobody_better`.
use Rattle.std.proofs.Common.{ℕ, ◌+◌, ◌-◌, ◌*◌, ◌<◌, List, length, ◌∙◌, arith, mul_comm}
use Rattle.std.proofs.lemmas.Nat.{div-mul-add, mod-mul-add, mul-add-lt}
use Rattle.model.specs.Histories.{Shown, Unfolds}
use Rattle.model.specs.Models.{Model, Lawful}
use Rattle.model.proofs.Paths.{some_history}
use Rattle.weighing.specs.Discounts.{discount_of}
use Rattle.weighmodel.specs.Weighings.{Weigh, LawfulWeigh}
use Rattle.worth.specs.Policies.{Best, planned}
use Rattle.worth.specs.Worths.{worth_of, choice_of}
use Rattle.worth.proofs.Alike.{best_alike}
use Rattle.worth.proofs.Optimal.{plan_best}
use Rattle.planning.specs.Plans.{HoldsTo, choice_at, tabled}

pub nobody_better : (w : Weigh) → LawfulWeigh w → (m : Model) → Lawful m → (horizon : ℕ) (choices : List ℕ) → HoldsTo (choice_at w m horizon) (horizon * m.span) choices
    → (g : Model) (sh : Shown) (code : List ℕ → ℕ) → Unfolds g sh m code → Best w discount_of g sh horizon (tabled choices m.span code horizon) (worth_of w discount_of m horizon horizon m.start)
nobody_better w law m lawful horizon choices filled g sh code u =
    best_alike w discount_of g sh horizon (planned w discount_of m code horizon) (tabled choices m.span code horizon) (worth_of w discount_of m horizon horizon m.start)
    (λ h hist few.
    let row = horizon - length h in
    let s = code h in
    let inside : s < m.span = lawful.states.within s (u.states h hist) in
    let some = some_history g sh.offered h hist in
    let low : row < horizon = omega arith in
    let place : row * m.span + s < horizon * m.span = omega (arith, mul-add-lt row m.span s horizon low inside, mul_comm horizon m.span) in
    filled (row * m.span + s) 0 place ∙ (λ i. choice_of w discount_of m horizon (div-mul-add row m.span s inside i) (mod-mul-add row m.span s inside i)))
    (plan_best w law discount_of g sh m code u (λ s a off. (lawful.moves.offers s a off).1) (λ h hist. lawful.moves.waits (code h) (u.states h hist)) horizon)
