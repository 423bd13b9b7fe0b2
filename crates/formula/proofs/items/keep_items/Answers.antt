use Rattle.std.proofs.Common.{◌≡◌, ◌++◌, ◌∷◌, [], cond, refl, ap, inl, inr, rules}
use Rattle.bounded.specs.Listed.{listed}
use Rattle.formula.specs.declared.Item.TheVariants.{Held}
use Rattle.formula.proofs.Listing.{wanted, unwanted, skipped, listed_both, over_held, over_failed, all_listed}
use Rattle.formula.proofs.items.keep_items.Goals as goal
use Rattle.formula.proofs.items.keep_items.Goals.{then-keeps_held+in_ok-ok, else-keeps_held}

pub loop-i-preserved : goal.loop-i-preserved
loop-i-preserved g c = skipped c.loop-i.invariant c.in-Some.ensures.steps.0 c.in-Some.ensures.steps.2 c.if-marked.false

pub returns-clause-answer : goal.returns-clause-answer
returns-clause-answer g c = (
  c.if-nodes-gt-NODES.false,
  all_listed c.loop-i.invariant c.if-nodes-gt-NODES.false
      (elim c.in-None.ensures.steps.0 [
        | inl (u, inl n) ↦ inl (inl n.1.0)
        | inl (u, inr n) ↦ inl (inr n.1.0)
        | inr n ↦ inr n.1.0
      ]),
)

pub returns-in_err-ok-clause-answer : goal.returns-in_err-ok-clause-answer
returns-in_err-ok-clause-answer g c =
    let told = c.in-Some.ensures.steps in
    over_held c.loop-i.invariant told.0 told.2 told.1 c.if-marked.true c.if-nodes-gt-NODES.false c.keeps_held.ensures refl _ c.if-keeps_held.true (search rules) c.from_residual.ensures

pub loop-i-preserved-else-keeps_failed : goal.loop-i-preserved-else-keeps_failed
loop-i-preserved-else-keeps_failed g c =
    let told = c.in-Some.ensures.steps in
    let half : listed c.if-keeps_held.items ≡ listed c.loop-i.items ++ cond c.keeps_held.result (Held c.in-Some.i ∷ []) [] =
    elim c.if-keeps_held.branch [
      | then-keeps_held+in_ok-ok w ↦ wanted c.keeps_held.result _ _ _ w.if-keeps_held.true (search rules)
      | else-keeps_held w ↦ unwanted c.keeps_held.result _ _ _ w.if-keeps_held.false (ap listed w.items-is)
    ] in
    listed_both c.loop-i.invariant told.0 told.2 told.1 c.if-marked.true c.if-nodes-gt-NODES.false c.keeps_held.ensures c.keeps_failed.ensures _
    (unwanted c.keeps_failed.result _ _ _ c.if-keeps_failed.false half)

pub loop-i-preserved-in-Continue-branch-2 : goal.loop-i-preserved-in-Continue-branch-2
loop-i-preserved-in-Continue-branch-2 g c =
    let told = c.in-Some.ensures.steps in
    let half : listed c.if-keeps_held.items ≡ listed c.loop-i.items ++ cond c.keeps_held.result (Held c.in-Some.i ∷ []) [] =
    elim c.if-keeps_held.branch [
      | then-keeps_held+in_ok-ok w ↦ wanted c.keeps_held.result _ _ _ w.if-keeps_held.true (search rules)
      | else-keeps_held w ↦ unwanted c.keeps_held.result _ _ _ w.if-keeps_held.false (ap listed w.items-is)
    ] in
    listed_both c.loop-i.invariant told.0 told.2 told.1 c.if-marked.true c.if-nodes-gt-NODES.false c.keeps_held.ensures c.keeps_failed.ensures _
    (wanted c.keeps_failed.result _ _ _ c.if-keeps_failed.true (search rules))

pub returns-in_err-ok-2-clause-answer : goal.returns-in_err-ok-2-clause-answer
returns-in_err-ok-2-clause-answer g c =
    let told = c.in-Some.ensures.steps in
    let half : listed c.if-keeps_held.items ≡ listed c.loop-i.items ++ cond c.keeps_held.result (Held c.in-Some.i ∷ []) [] =
    elim c.if-keeps_held.branch [
      | then-keeps_held+in_ok-ok w ↦ wanted c.keeps_held.result _ _ _ w.if-keeps_held.true (search rules)
      | else-keeps_held w ↦ unwanted c.keeps_held.result _ _ _ w.if-keeps_held.false (ap listed w.items-is)
    ] in
    over_failed c.loop-i.invariant told.0 told.2 told.1 c.if-marked.true c.if-nodes-gt-NODES.false c.keeps_held.ensures c.keeps_failed.ensures _ _ half
    c.if-keeps_failed.true (search rules) c.from_residual-in_err-ok-2.ensures
