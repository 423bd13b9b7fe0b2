use Rattle.std.proofs.Common.{◌≡◌, ℕ, ◌-◌, cond, leb, List, length, Some, None, Option, sym, ap, ◌∙◌}
use Rattle.pilemodel.specs.Piles.{Piling, shown_on}
use Rattle.promise.specs.Corresponding.{book_model, place_in}
use Rattle.promise.specs.WholePlan.{IsPlanOf, choice_for, policy_of}
use Rattle.promise.specs.declared.plans.Plan.{Plan}
use Rattle.promise.proofs.Advised.{advice_told, advised, tell_told}
use Rattle.sitebook.specs.Contents.{contents}
use Rattle.walk.specs.declared.Sight.{Sight}
use Rattle.walk.proofs.Agreement.{beside_over_all}
use Rattle.walk.specs.Reckoner.{Reckoner, StaysBeside, begins, reckoned_after}
use Rattle.walk.specs.Views.{walk_of}
use Rattle.walk.specs.Walker.{Walk, begun, chosen_in, reached, stands_at, walk_has}
use Rattle.weighing.specs.Discounts.{discount_of}
use Rattle.weighmodel.specs.Weighings.{Weigh}
use Rattle.writeout.specs.Copies.{by_origin}
use Rattle.promise.proofs.plans.Plan.advice.Goals as goal

-- a walk on the book stays beside the reckoner
beside : (w : Weigh) (pile : Piling) (h : ℕ) (p : Plan) → IsPlanOf w pile h p → StaysBeside discount_of pile.base (shown_on pile) (book_model pile.model) (place_in pile)
beside w pile h p is = beside_over_all (book_model pile.model) pile.base (shown_on pile) (place_in pile) (is.corresponds.in_book is.writable)

pub returns-then-is_choosing : goal.returns-then-is_choosing
returns-then-is_choosing c = λ w pile h is ns there.
    let r : Reckoner = reckoned_after pile.base (shown_on pile) (begins pile.base) ns in
    let by = beside w pile h c.args.self.now is ns in
    tell_told (walk_of c.args.walker.now) (policy_of pile c.args.self.now) h r.history r.chosen (sym c.is_choosing.ensures ∙ c.if-is_choosing.true) (ap chosen_in there ∙ by.chosen)

-- the choice for the slot and the state of a walk that stands after the numbers ns
chosen : (w : Weigh) (pile : Piling) (h : ℕ) (p : Plan) → IsPlanOf w pile h p → (walk : Walk) (ns : List ℕ) → walk ≡ reached discount_of (book_model pile.model) (begun discount_of (book_model pile.model)) ns
    → (sight : Sight) → sight ≡ walk_has (by_origin (contents p.book.book)) walk → (state : ℕ) → state ≡ stands_at walk → (r : Option ℕ) → r ≡ choice_for w (book_model pile.model) h sight.slot state
    → r ≡ cond (leb (length (reckoned_after pile.base (shown_on pile) (begins pile.base) ns).history) h) (Some (policy_of pile p (reckoned_after pile.base (shown_on pile) (begins pile.base) ns).history)) None
chosen w pile h p is walk ns there sight seen state stands r told =
    let by = beside w pile h p is ns in
    let hist : List ℕ = (reckoned_after pile.base (shown_on pile) (begins pile.base) ns).history in
    let slot : sight.slot ≡ length hist - 1 = ap (λ (s : Sight). s.slot) (seen ∙ (λ i. walk_has (by_origin (is.book i)) (there i)) ∙ by.has) in
    let place : state ≡ place_in pile hist = stands ∙ ap stands_at there ∙ by.stands in
    told ∙ (λ i. choice_for w (book_model pile.model) h (slot i) (place i)) ∙ advised w pile h p is hist by.led

pub returns-in-Some : goal.returns-in-Some
returns-in-Some c = λ w pile h is ns there.
    let r : Reckoner = reckoned_after pile.base (shown_on pile) (begins pile.base) ns in
    let by = beside w pile h c.args.self.now is ns in
    let told = chosen w pile h c.args.self.now is (walk_of c.args.walker.now) ns there c.sight-slot.result c.sight-slot.ensures c.state.result c.state.ensures c.choice.result (c.choice.ensures w pile h is) in
    advice_told (walk_of c.args.walker.now) (policy_of pile c.args.self.now) h r.history r.chosen (Some c.in-Some.action) (sym c.is_choosing.ensures ∙ c.if-is_choosing.false) (ap chosen_in there ∙ by.chosen) (sym c.in-Some.is ∙ told)

pub returns-in-None : goal.returns-in-None
returns-in-None c = λ w pile h is ns there.
    let r : Reckoner = reckoned_after pile.base (shown_on pile) (begins pile.base) ns in
    let by = beside w pile h c.args.self.now is ns in
    let told = chosen w pile h c.args.self.now is (walk_of c.args.walker.now) ns there c.sight-slot.result c.sight-slot.ensures c.state.result c.state.ensures c.choice.result (c.choice.ensures w pile h is) in
    advice_told (walk_of c.args.walker.now) (policy_of pile c.args.self.now) h r.history r.chosen None (sym c.is_choosing.ensures ∙ c.if-is_choosing.false) (ap chosen_in there ∙ by.chosen) (sym c.in-None.is ∙ told)
