use Rattle.std.proofs.Common.{sym, ap, ◌∙◌}
use Rattle.pile.proofs.Stacking.{item_copied, told}
use Rattle.pile.proofs.laying.lay.Goals as goal

pub returns-in-Some-clause-refused : goal.returns-in-Some-clause-refused
returns-in-Some-clause-refused g c =
    let has = c.new-layer.ensures.book ∙ c.copied.ensures ∙ item_copied c.args.books.now c.args.floor c.get.result c.get.ensures.lookup in
    sym (told _ _ _ _ c.refusal.result (ap g.M.SiteModel.meaning c.new-layer.ensures.below) has c.refusal.ensures) ∙ c.in-Some.is

pub returns-in-None-clause-book : goal.returns-in-None-clause-book
returns-in-None-clause-book g c = c.new-layer.ensures.book ∙ c.copied.ensures ∙ item_copied c.args.books.now c.args.floor c.get.result c.get.ensures.lookup

pub returns-in-None-clause-laid : goal.returns-in-None-clause-laid
returns-in-None-clause-laid g c =
    let has = c.new-layer.ensures.book ∙ c.copied.ensures ∙ item_copied c.args.books.now c.args.floor c.get.result c.get.ensures.lookup in
    sym (told _ _ _ _ c.refusal.result (ap g.M.SiteModel.meaning c.new-layer.ensures.below) has c.refusal.ensures) ∙ c.in-None.is
