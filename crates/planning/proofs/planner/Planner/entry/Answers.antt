use Rattle.std.proofs.Common.{◌≡◌, ◌-◌, ◌/◌, ◌%◌, sym, ap, ◌∙◌, w64, to_z, of_z, arith}
use Rattle.std.proofs.lemmas.Int.{to_z-of_z}
use Rattle.weighing.specs.Discounts.{discount_of}
use Rattle.weighmodel.proofs.Holding.{within_fits64}
use Rattle.weighmodel.specs.Weighings.{held}
use Rattle.worth.specs.Worths.{own_part, summed, action_of}
use Rattle.planning.specs.Plans.{worth_at, choice_at}
use Rattle.planning.proofs.Entries.{picked_within, picked_small, last_worth, first_row, entry_there}
use Rattle.planning.proofs.planner.Planner.entry.Goals as goal

-- with no slot left the own part is all, and no choice stands a row before
pub returns-then-left-eq0-clause-entry : goal.returns-then-left-eq0-clause-entry
returns-then-left-eq0-clause-entry g c =
    let m = g.M.SiteModel.meaning c.args.self.now.model.now in
    let w = g.W.Weighing.meaning c.args.self.now.weighing.now in
    let law = g.met.M.SiteModel.lawful c.args.self.now.model.now in
    let p = c.args.place in
    let h = c.args.self.now.horizon in
    let own = c.own-own.result in
    let states = c.count-states.ensures.count in
    let none : p / m.span ≡ 0 = sym (ap (λ n. p / n) states) ∙ c.if-left-eq0.true in
    record {
      worth =
          to_z-of_z w64 own (within_fits64 own c.own-own.ensures.held)
          ∙ c.own-own.ensures.part
          ∙ (λ i. own_part w discount_of h (p / states i) (m.reward (p % states i)))
          ∙ sym (last_worth w m law (g.met.M.Numbered.numbered c.args.self.now.model.now) h p none);
      choice = λ row. absurd (first_row w m law (g.met.M.Numbered.numbered c.args.self.now.model.now) h p none row);
    }

pub after-requires-clause-best : goal.after-requires-clause-best
after-requires-clause-best g c =
    picked_within (g.W.Weighing.meaning c.args.self.now.weighing.now) (g.met.W.Weighing.lawful c.args.self.now.weighing.now) (g.M.SiteModel.meaning c.args.self.now.model.now) _ _ c.best.result c.best.ensures

-- the entry, from the table so far
there : (g : _) (c : goal.After-after g)
    → (summed held (to_z w64 (of_z w64 c.own-own.result)) c.best.result ≡ worth_at (g.W.Weighing.meaning c.args.self.now.weighing.now) (g.M.SiteModel.meaning c.args.self.now.model.now) c.args.self.now.horizon c.args.place)
    × (action_of c.best.result ≡ choice_at (g.W.Weighing.meaning c.args.self.now.weighing.now) (g.M.SiteModel.meaning c.args.self.now.model.now) c.args.self.now.horizon (c.args.place - (g.M.SiteModel.meaning c.args.self.now.model.now).span))
there g c =
    let own = c.own-own.result in
    let same : to_z w64 (of_z w64 own) ≡ own = to_z-of_z w64 own (within_fits64 own c.own-own.ensures.held) in
    entry_there (g.W.Weighing.meaning c.args.self.now.weighing.now) (g.M.SiteModel.meaning c.args.self.now.model.now) (g.met.M.SiteModel.lawful c.args.self.now.model.now) (g.met.M.Numbered.numbered c.args.self.now.model.now) c.args.self.now.horizon
    c.args.worths.now
    c.args.place
    c.count-states.result
    (to_z w64 (of_z w64 own))
    c.best.result
    c.requires.before
    c.count-states.ensures.count
    c.if-left-eq0.false
    (same ∙ c.own-own.ensures.part)
    c.best.ensures

pub returns-clause-entry : goal.returns-clause-entry
returns-clause-entry g c = record {
  worth = c.after.ensures.value ∙ (there g c).0;
  choice = λ row. c.after.ensures.action ∙ (there g c).1;
}

pub returns-clause-small : goal.returns-clause-small
returns-clause-small g c =
    let small = picked_small (g.W.Weighing.meaning c.args.self.now.weighing.now) (g.M.SiteModel.meaning c.args.self.now.model.now) (g.met.M.SiteModel.lawful c.args.self.now.model.now) _ _ c.best.result c.best.ensures in
    omega (arith, small, c.after.ensures.action)
