use Rattle.std.proofs.Common.{◌≡◌, ◌+◌, ◌-◌, ◌*◌, ◌<◌, ap, ◌∙◌, arith}
use Rattle.std.specs.List.{slice_get}
use Rattle.promise.specs.Corresponding.{book_model}
use Rattle.pile.proofs.Stacking.{item_copied}
use Rattle.promise.proofs.Advised.{choice_told}
use Rattle.writeout.specs.Copies.{by_origin}
use Rattle.promise.proofs.plans.Plan.choice.Goals as goal

pub returns : goal.returns
returns c = λ w pile h is.
    let p = c.args.self.now in
    let states : c.count-states.result ≡ (book_model pile.model).span = c.count-states.ensures.count ∙ ap (λ b. (by_origin b).span) is.book in
    let before : c.args.slot < h = omega (arith, is.slots) in
    let listed : c.args.state < (book_model pile.model).span = omega (arith, states) in
    c.copied.ensures
    ∙ item_copied c.deref.result.now ((p.horizon - c.args.slot - 1) * c.count-states.result + c.args.state) c.get.result c.get.ensures.lookup
    ∙ (λ i. slice_get (c.deref.ensures.value i) ((is.slots i - c.args.slot - 1) * states i + c.args.state))
    ∙ choice_told w pile h p is c.args.slot c.args.state before listed
