use Rattle.layer.proofs.Refusing.{laid_as, lies_as}
use Rattle.layer.proofs.layers.Layer.fitted.Goals as goal

pub returns-clause-book : goal.returns-clause-book
returns-clause-book g c =
    let l = c.args.self.now in
    laid_as (λ o. o.below.now) (λ o. o.book.now) g.M.SiteModel.meaning l.below c.in_ok-as_ref.field-0.now c.new.result (c.new.ensures.parts, c.new.ensures.refusal) c.ok.result c.ok.ensures.value l.book c.in_ok-as_ref.ensures.value

pub returns-clause-meaning : goal.returns-clause-meaning
returns-clause-meaning g c =
    let l = c.args.self.now in
    lies_as (λ o. o.below.now) (λ o. o.book.now) g.M.SiteModel.meaning l.below c.in_ok-as_ref.field-0.now c.new.result (c.new.ensures.parts, c.new.ensures.refusal) c.ok.result c.ok.ensures.value l.book c.in_ok-as_ref.ensures.value
