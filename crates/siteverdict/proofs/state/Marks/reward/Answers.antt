use Rattle.std.proofs.Common.{max, ap, ◌∙◌, rules, arith}
use Rattle.siteverdict.specs.Tracking.{Tracks}
use Rattle.siteverdict.proofs.Tracking.{reward_leads, mark_more, mark_last}
use Rattle.siteverdict.proofs.state.Marks.reward.Goals as goal

pub returns-then-read-head : goal.returns-then-read-head
returns-then-read-head c = λ d at.
    let m = c.args.self in
    reward_leads Tracks m.head at.0 c.args.word _ at.1.0 c.in_ok-worth.worth d at.1.1.0 (search rules)
    (mark_more m.head m.read m.bound c.max-bound.result at.0 _ at.1.1.1 c.if-read-head.true (c.max-bound.ensures ∙ ap (max m.bound) (omega (arith, c.abs_diff.ensures))))

pub returns : goal.returns
returns c = λ d at.
    let m = c.args.self in
    reward_leads Tracks m.head at.0 c.args.word _ at.1.0 c.in_ok-worth.worth d at.1.1.0 (search rules)
    (mark_last m.head m.read m.bound c.max-bound.result at.0 _ at.1.1.1 m.few c.if-read-head.false (c.max-bound.ensures ∙ ap (max m.bound) (omega (arith, c.abs_diff.ensures))))
