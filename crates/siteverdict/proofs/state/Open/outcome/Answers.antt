use Rattle.std.proofs.Common.{◌≡◌, [], ◌∷◌, ◌++◌, ap, length, ◌*◌, sym, ◌∙◌, refl, eqb, rules, arith}
use Rattle.std.proofs.lemmas.List.{length-map}
use Rattle.bounded.specs.Listed.{listed}
use Rattle.sitelayout.specs.declared.Move.{Move}
use Rattle.sitelayout.proofs.Account.{pushed_some}
use Rattle.siteverdict.specs.Tracking.{Tracks}
use Rattle.siteverdict.proofs.Tracking.{move_leads, move_on, move_twice, moved_due, moved_wrong, moved_right, taken_by, targets-push, weight-push, close_by}
use Rattle.siteverdict.proofs.state.Open.outcome.Goals as goal

pub returns-then-contains : goal.returns-then-contains
returns-then-contains c = λ d at.
    let o = c.args.self in
    let m = c.in_ok-way.way in
    let mv = at.1.1.0 in
    let of = at.1.1.1.1 in
    let twice = taken_by m.target mv c.deref.result.now _ (of.targets ∙ sym c.deref.ensures.0) c.contains.ensures.value ∙ c.if-contains.true in
    move_leads Tracks o.table.counts.head at.0 c.args.word _ at.1.0 mv o.due m d at.1.1.1.0 (search rules)
    (move_twice Tracks o.table.counts.head at.0 at.1.0 mv o.due m twice)

pub returns-then-due-gt0 : goal.returns-then-due-gt0
returns-then-due-gt0 c = λ d at.
    let o = c.args.self in
    let h = o.table.counts.head in
    let m = c.in_ok-way.way in
    let cs = at.1.0 in
    let mv = at.1.1.0 in
    let of = at.1.1.1.1 in
    let new = taken_by m.target mv c.deref.result.now _ (of.targets ∙ sym c.deref.ensures.0) c.contains.ensures.value ∙ c.if-contains.false in
    let pushed : listed c.push.new.self ≡ listed o.targets ++ (m.target ∷ []) = search rules in
    move_leads Tracks h at.0 c.args.word _ cs mv o.due m d at.1.1.1.0 (search rules)
    (move_on Tracks h at.0 c.args.word _ cs mv o.due m new
    (moved_due Tracks h at.0 cs (mv ++ (m ∷ [])) _ o.due c.if-due-gt0.true
    (at.0, (cs, (mv ++ (m ∷ []), (refl, record { table = of.table; room = of.room; weighed = omega (arith, weight-push mv m o.total of.weighed); targets = targets-push mv m _ _ of.targets pushed }))))))

pub returns-then-total-ne8 : goal.returns-then-total-ne8
returns-then-total-ne8 c = λ d at.
    let o = c.args.self in
    let h = o.table.counts.head in
    let m = c.in_ok-way.way in
    let cs = at.1.0 in
    let mv = at.1.1.0 in
    let of = at.1.1.1.1 in
    let new = taken_by m.target mv c.deref.result.now _ (of.targets ∙ sym c.deref.ensures.0) c.contains.ensures.value ∙ c.if-contains.false in
    move_leads Tracks h at.0 c.args.word _ cs mv o.due m d at.1.1.1.0 (search rules)
    (move_on Tracks h at.0 c.args.word _ cs mv o.due m new
    (moved_wrong Tracks h at.0 cs (mv ++ (m ∷ [])) o.due c.if-due-gt0.false (λ e. c.if-total-ne8.true (omega (arith, weight-push mv m o.total of.weighed, e)))))

pub returns : goal.returns
returns c = λ d at.
    let o = c.args.self in
    let t = o.table in
    let h = t.counts.head in
    let m = c.in_ok-way.way in
    let cs = at.1.0 in
    let mv = at.1.1.0 in
    let of = at.1.1.1.1 in
    let new = taken_by m.target mv c.deref.result.now _ (of.targets ∙ sym c.deref.ensures.0) c.contains.ensures.value ∙ c.if-contains.false in
    let pushed : listed c.push.new.self ≡ listed o.targets ++ (m.target ∷ []) = search rules in
    let targets = targets-push mv m _ _ of.targets pushed in
    let long : length (mv ++ (m ∷ [])) ≡ c.len.result = sym (length-map (mv ++ (m ∷ [])) (λ (m : Move). m.target)) ∙ ap length targets ∙ sym c.len.ensures.count in
    move_leads Tracks h at.0 c.args.word _ cs mv o.due m d at.1.1.1.0 (search rules)
    (move_on Tracks h at.0 c.args.word _ cs mv o.due m new
    (moved_right Tracks h at.0 cs (mv ++ (m ∷ [])) _ o.due c.if-due-gt0.false (omega (arith, weight-push mv m o.total of.weighed, c.if-total-ne8.false))
    (at.0, (cs ++ ((mv ++ (m ∷ [])) ∷ []), (refl, close_by t.counts t.cells t.waits at.0 cs (mv ++ (m ∷ [])) c.len.result of.table of.room (pushed_some mv m) long (eqb t.cells (t.waits * h.actions)) refl)))))
