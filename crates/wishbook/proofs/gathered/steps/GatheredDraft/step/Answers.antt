use Rattle.std.proofs.Common.{length, refl, rules}
use Rattle.bounded.specs.Listed.{listed}
use Rattle.std.proofs.lemmas.Bool.{eq-eqb, ne_eqb}
use Rattle.words.specs.Words.{kind}
use Rattle.wishlayout.specs.OneWord.{node_of, wish_of}
use Rattle.wishbook.specs.Steps.{NodeAdded, WishAdded}
use Rattle.wishbook.proofs.Stepping.{by_node, by_none, by_end, by_wish, first_wish, next_wish, node_good, wish_good}
use Rattle.wishbook.proofs.gathered.steps.GatheredDraft.step.Goals as goal
use Rattle.wishbook.proofs.gathered.steps.GatheredDraft.step.Goals.{then-wished-eq0+else-kind-ne-WISH+else-count-eq0, else-wished-eq0+else-kind-eq-END}

pub invariant_of-self : goal.invariant_of-self
invariant_of-self c =
    let g = c.args.self.now in
    let told : NodeAdded (listed g.nodes) c.args.word (listed c.add.new.all) c.add.result = c.add.ensures (node_of (length (listed g.nodes)) c.args.word) (λ r h. search rules) in
    record { good = node_good (listed g.nodes) (listed c.add.new.all) (listed g.wishes) c.args.word c.add.result (search rules) (ne_eqb (kind c.args.word) 10 c.if-kind-ne-WISH.true) g.good told }

pub returns-then-kind-ne-WISH : goal.returns-then-kind-ne-WISH
returns-then-kind-ne-WISH c = λ s f.
    let g = c.args.self.now in
    let told : NodeAdded (listed g.nodes) c.args.word (listed c.add.new.all) c.add.result = c.add.ensures (node_of (length (listed g.nodes)) c.args.word) (λ r h. search rules) in
    by_node g _ c.args.word s c.add.result (search rules) (ne_eqb (kind c.args.word) 10 c.if-kind-ne-WISH.true) refl told f

pub returns-then-count-eq0 : goal.returns-then-count-eq0
returns-then-count-eq0 c = λ s f. by_none c.args.self.now _ c.args.word s (search rules) (eq-eqb (kind c.args.word) 10 c.if-kind-ne-WISH.false) (search rules) f

pub returns-then-kind-eq-END : goal.returns-then-kind-eq-END
returns-then-kind-eq-END c = λ s f. by_end c.args.self.now _ c.args.word s (search rules) (eq-eqb (kind c.args.word) 15 c.if-kind-eq-END.true) refl f

pub invariant_of-self-2 : goal.invariant_of-self-2
invariant_of-self-2 c =
    let g = c.args.self.now in
    let told : WishAdded (length (listed g.nodes)) (listed g.wishes) c.args.word (listed c.add-2.new.all) c.add-2.result = c.add-2.ensures (wish_of (length (listed g.nodes)) c.args.word) (λ r h. search rules) in
    record {
      good = elim c.if-wished-eq0.branch [
        | then-wished-eq0+else-kind-ne-WISH+else-count-eq0 w ↦ wish_good (listed g.nodes) (listed g.wishes) (listed c.add-2.new.all) c.args.word c.add-2.result (search rules)
            (first_wish (listed g.nodes) (listed g.wishes) c.args.word (search rules) (eq-eqb (kind c.args.word) 10 w.if-kind-ne-WISH.false) (search rules)) g.good told
        | else-wished-eq0+else-kind-eq-END w ↦ wish_good (listed g.nodes) (listed g.wishes) (listed c.add-2.new.all) c.args.word c.add-2.result (search rules)
            (next_wish (listed g.nodes) (listed g.wishes) c.args.word (search rules) (ne_eqb (kind c.args.word) 15 w.if-kind-eq-END.false)) g.good told
      ];
    }

pub returns : goal.returns
returns c = λ s f.
    let g = c.args.self.now in
    let told : WishAdded (length (listed g.nodes)) (listed g.wishes) c.args.word (listed c.add-2.new.all) c.add-2.result = c.add-2.ensures (wish_of (length (listed g.nodes)) c.args.word) (λ r h. search rules) in
    elim c.if-wished-eq0.branch [
      | then-wished-eq0+else-kind-ne-WISH+else-count-eq0 w ↦ by_wish g _ c.args.word s c.add-2.result
          (first_wish (listed g.nodes) (listed g.wishes) c.args.word (search rules) (eq-eqb (kind c.args.word) 10 w.if-kind-ne-WISH.false) (search rules)) refl told f
      | else-wished-eq0+else-kind-eq-END w ↦ by_wish g _ c.args.word s c.add-2.result
          (next_wish (listed g.nodes) (listed g.wishes) c.args.word (search rules) (ne_eqb (kind c.args.word) 15 w.if-kind-eq-END.false)) refl told f
    ]
