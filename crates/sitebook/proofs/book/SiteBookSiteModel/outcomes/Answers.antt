use Rattle.std.proofs.Common.{map, take, ap, ◌∙◌}
use Rattle.sitemodel.specs.Meaning.{outcome_of}
use Rattle.sitebook.specs.Contents.{contents}
use Rattle.sitebook.proofs.Cells.{few_at}
use Rattle.sitebook.proofs.book.SiteBookSiteModel.outcomes.Goals as goal

-- they are all of them, since no action has more than eight
pub returns : goal.returns
returns c = record {
  outcomes = c.outcomes_of.ensures
      ∙ ap (λ l. take 8 (map outcome_of l)) c.cell.ensures
      ∙ few_at (contents c.args.self.now) c.args.s c.args.a c.args.self.now.sound;
}
