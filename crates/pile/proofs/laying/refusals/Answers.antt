use Rattle.std.proofs.Common.{◌∷◌, [], sym, ap, ◌∙◌, refl}
use Rattle.layer.specs.InMemory.{meaning_of}
use Rattle.pilemodel.specs.Piles.{floor_over}
use Rattle.pilemodel.specs.Raised.{floor_in}
use Rattle.pilemodel.proofs.Pushing.{over_in}
use Rattle.pile.specs.Stacks.{floor_refusal}
use Rattle.pile.proofs.Stacking.{told}
use Rattle.pile.proofs.laying.refusals.Goals as goal

pub returns : goal.returns
returns g c =
    let p = c.args.pile.now in
    let ground = g.G.SiteModel.meaning p.below.below.below.bottom in
    let lower = c.below-2.ensures ∙ ap (λ l. l.below) c.below.ensures in
    let lowest = told _ _ _ _ c.refusal.result (ap (λ l. g.G.SiteModel.meaning l.below.bottom) lower) (ap (λ l. l.book) lower) c.refusal.ensures in
    let middle = told _ _ _ _ c.refusal-2.result (ap (λ l. meaning_of (λ f. g.G.SiteModel.meaning f.bottom) l.below) c.below-3.ensures) (ap (λ l. l.book) c.below-3.ensures) c.refusal-2.ensures in
    let above = meaning_of (meaning_of (λ f. g.G.SiteModel.meaning f.bottom)) p.below in
    let top = told above above _ _ c.refusal-3.result refl refl c.refusal-3.ensures in
    let first = over_in ground p.below.below.book in
    let second = over_in (floor_over ground (floor_in p.below.below.book)) p.below.book ∙ ap (λ m. meaning_of (λ (x : _). m) p.below) first in
    λ i. lowest i
    ∷ ((middle ∙ ap (λ m. floor_refusal m (floor_in p.below.book)) (sym first)) i
    ∷ ((top ∙ ap (λ m. floor_refusal m (floor_in p.book)) (sym second)) i ∷ []))
