use Rattle.std.proofs.Common.{◌≡◌, [], ◌∷◌, ap, ◌∙◌, subst}
use Rattle.layer.specs.InMemory.{meaning_of}
use Rattle.pile.proofs.Turns.{FourTurns, all_judged, on}
use Rattle.pile.specs.Skipping.{Judges, present}
use Rattle.pile.proofs.skipping.lay_each.Goals as goal

pub returns : goal.returns
returns g c =
    let base = g.G.SiteModel.meaning c.args.bottom in
    let ws = c.args.books.now in
    let first = c.in_ok-first.first in
    let second = c.in_ok-second.second in
    let third = c.in_ok-third.third in
    let r1 = c.first_laid.new.refusals.items in
    let r2 = c.first_laid-2.new.refusals.items in
    let r3 = c.first_laid-3.new.refusals.items in
    let r4 = c.first_laid-4.new.refusals.items in
    let ground : g.G.SiteModel.meaning c.new-ground.result.bottom ≡ base = ap g.G.SiteModel.meaning c.new-ground.ensures in
    let one : meaning_of (λ f. g.G.SiteModel.meaning f.bottom) c.new-one.result ≡ on base first = c.new-one.ensures.meaning ∙ ap (λ m. on m first) ground in
    let two : meaning_of (meaning_of (λ f. g.G.SiteModel.meaning f.bottom)) c.new-two.result ≡ on (on base first) second = c.new-two.ensures.meaning ∙ ap (λ m. on m second) one in
    let three : meaning_of (meaning_of (meaning_of (λ f. g.G.SiteModel.meaning f.bottom))) c.new-pile.result ≡ on (on (on base first) second) third = c.new-pile.ensures.meaning ∙ ap (λ m. on m third) two in
    let turns : FourTurns base ws r1 r2 r3 r4 first second third c.in_ok-first_laid.field-0 = record {
      first = subst (λ rs. Judges base ws rs r1 first) c.new-refusals.ensures.items (subst (λ m. Judges m ws c.new-refusals.result.items r1 first) ground c.in_ok-first.ensures);
      second = subst (λ m. Judges m ws r1 r2 second) one c.in_ok-second.ensures;
      third = subst (λ m. Judges m ws r2 r3 third) two c.in_ok-third.ensures;
      fourth = subst (λ m. Judges m ws r3 r4 c.in_ok-first_laid.field-0) three c.in_ok-first_laid.ensures;
    } in
    let all = all_judged base ws (g.met.G.SiteModel.lawful c.args.bottom) r1 r2 r3 r4 first second third c.in_ok-first_laid.field-0 turns in
    let below = c.new-pile.ensures.below in
    let lower = ap (λ l. l.below) below ∙ c.new-two.ensures.below in
    let lowest = ap (λ l. l.book) lower ∙ c.new-one.ensures.book in
    let middle = ap (λ l. l.book) below ∙ c.new-two.ensures.book in
    record {
      bottom = ap (λ l. l.below.bottom) lower ∙ ap (λ f. f.bottom) c.new-one.ensures.below ∙ c.new-ground.ensures;
      books = (λ i. present (lowest i ∷ (middle i ∷ (c.new-pile.ensures.book i ∷ [])))) ∙ all.2;
      meaning = three ∙ all.0;
      refusals = all.1;
    }
