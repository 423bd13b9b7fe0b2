use Rattle.std.proofs.Common.{◌<◌, Some, length, take, ap, ◌∙◌, arith, rules}
use Rattle.std.proofs.lemmas.List.{take_all}
use Rattle.bounded.specs.Listed.{listed}
use Rattle.register.specs.Few.{few_of}
use Rattle.formula.proofs.Same.{entered}
use Rattle.formula.proofs.Tables.{few_nodes, place_small, long, reached_more, reached_all}
use Rattle.formula.proofs.merging.merge_few.Goals as goal

pub returns-in_err-place : goal.returns-in_err-place
returns-in_err-place c =
    absurd (omega (arith, c.in_err-place.ensures.answer.1, c.loop-word.invariant.room, few_nodes c.loop-word.invariant.reached, c.loop-word-test.true, c.requires))

pub overflow_cast-place : goal.overflow_cast-place
overflow_cast-place c =
    let inv = c.loop-word.invariant in
    let answer = entered c.renumber-node.result (length c.loop-word.few.keys.now) (few_of c.loop-word.few) (few_of c.enter.new.self) (Some c.in_ok-place.place) c.in_ok-place.ensures.answer in
    omega (arith, place_small inv.reached _ _ answer.0, c.loop-word-test.true, c.requires)

pub loop-word-preserved : goal.loop-word-preserved
loop-word-preserved c =
    let inv = c.loop-word.invariant in
    let told = c.in_ok-place.ensures in
    let answer = entered c.renumber-node.result (length c.loop-word.few.keys.now) (few_of c.loop-word.few) (few_of c.enter.new.self) (Some c.in_ok-place.place) told.answer in
    let room : length (listed c.loop-word.numbers) < 128 = omega (arith, long inv.reached, c.loop-word-test.true, c.requires) in
    record {
      reached = reached_more inv.reached _ c.loop-word-test.true c.deref.ensures.0 c.renumber-node.ensures _ _ _ answer.0 answer.1 (search rules);
      room = told.room ∙ inv.room;
    }

pub returns : goal.returns
returns c =
    let all = reached_all c.loop-word.invariant.reached (omega arith) in (
      omega (arith, c.requires),
      c.from_slice.ensures
          ∙ ap (take 128) c.as_slice.ensures
          ∙ take_all 128 _ (omega (arith, few_nodes c.loop-word.invariant.reached, c.requires))
          ∙ all.0,
      all.1,
    )
