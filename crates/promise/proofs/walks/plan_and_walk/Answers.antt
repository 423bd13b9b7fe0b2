use Rattle.std.proofs.Common.{subst}
use Rattle.promise.specs.Walking.{CourseTold, StepsTold}
use Rattle.promise.proofs.Agreeing.{course_in_book, course_on_pile, own_book, steps_agree, steps_in_book}
use Rattle.promise.proofs.Promising.{meaning_is, on_meaning, with_meaning}
use Rattle.promise.proofs.walks.plan_and_walk.Goals as goal

pub returns-clause-on_pile : goal.returns-clause-on_pile
returns-clause-on_pile g c =
    let laid = g.met.P.Pile.laid c.args.pile.now in
    let own = with_meaning (g.P.SiteModel.meaning c.args.pile.now) (g.P.Pile.piling c.args.pile.now) in
    let promised = on_meaning _ _ laid c.plan_pile-plan.ensures.pile in
    subst (λ x. StepsTold x c.args.numbers.now c.args.walks.now.on_pile.now c.replay-on_pile.new.steps) (meaning_is _ _ laid)
    (steps_agree own own.model promised.agrees_on_pile c.args.numbers.now c.args.walks.now.on_pile.now c.replay-on_pile.new.steps c.replay-on_pile.ensures.steps)

pub returns-clause-in_book : goal.returns-clause-in_book
returns-clause-in_book g c =
    let w = g.W.Weighing.meaning c.args.weighing.now in
    let pile = g.P.Pile.piling c.args.pile.now in
    let own = own_book w pile c.args.horizon c.plan_pile-plan.result c.plan_pile-plan.ensures.plan in
    steps_in_book pile c.plan_pile-plan.ensures.pile.corresponds c.args.numbers.now c.args.walks.now.in_book.now c.walk_in_book-in_book.new.steps c.plan_pile-plan.result c.walk_in_book-in_book.result own c.walk_in_book-in_book.ensures

pub returns-clause-course_on_pile : goal.returns-clause-course_on_pile
returns-clause-course_on_pile g c =
    let laid = g.met.P.Pile.laid c.args.pile.now in
    let own = with_meaning (g.P.SiteModel.meaning c.args.pile.now) (g.P.Pile.piling c.args.pile.now) in
    let promised = on_meaning _ _ laid c.plan_pile-plan.ensures.pile in
    subst (λ x. CourseTold x c.args.numbers.now c.replay-on_pile.result) (meaning_is _ _ laid)
    (course_on_pile own promised.corresponds c.args.numbers.now c.args.walks.now.on_pile.now c.replay-on_pile.new.steps c.replay-on_pile.result c.replay-on_pile.ensures.course)

pub returns-clause-course_in_book : goal.returns-clause-course_in_book
returns-clause-course_in_book g c =
    let w = g.W.Weighing.meaning c.args.weighing.now in
    let pile = g.P.Pile.piling c.args.pile.now in
    let own = own_book w pile c.args.horizon c.plan_pile-plan.result c.plan_pile-plan.ensures.plan in
    course_in_book pile c.plan_pile-plan.ensures.pile.corresponds c.args.numbers.now c.args.walks.now.in_book.now c.walk_in_book-in_book.new.steps c.plan_pile-plan.result c.walk_in_book-in_book.result own c.walk_in_book-in_book.ensures
