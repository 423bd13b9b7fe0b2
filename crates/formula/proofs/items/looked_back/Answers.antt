use Rattle.std.proofs.Common.{◌∙◌, rules, refl, false}
use Rattle.std.proofs.lemmas.List.{get_or-replicate, length_push}
use Rattle.std.proofs.lemmas.Slice.Zip.{zip_turn, zip_end}
use Rattle.formula.specs.declared.Node.TheVariants.{True}
use Rattle.formula.proofs.Passes.{back_more, back_all}
use Rattle.formula.proofs.items.looked_back.Goals as goal

pub loop-node-init : goal.loop-node-init
loop-node-init c = record { long = refl; looked = λ k l. get_or-replicate 128 k false false l }

pub loop-node-preserved-then-marked : goal.loop-node-preserved-then-marked
loop-node-preserved-then-marked c =
    let turn = zip_turn c.args.nodes.now c.args.marks.now c.loop-node.yielded c.into_iter-node-iterator.result c.loop-node.node-iterator c.next.new.self c.next.result (search rules) (search rules) c.loop-node.yielded_by (c.in-Some.node, c.in-Some.marked) c.in-Some.is c.next.ensures.steps in
    record {
      long = search rules;
      looked =
          back_more c.args.nodes.now c.args.marks.now c.loop-node.back c.look_back.new.back _ _ c.in-Some.node.now (length_push c.loop-node.yielded _) (turn.2 True) (search (rules, turn.3 false))
          c.loop-node.invariant.long c.loop-node.invariant.looked c.look_back.ensures;
    }

pub returns : goal.returns
returns c = λ k l.
    let end = zip_end c.args.nodes.now c.args.marks.now c.loop-node.yielded c.into_iter-node-iterator.result c.loop-node.node-iterator c.next.new.self c.next.result (search rules) (search rules) c.loop-node.yielded_by c.in-None.is c.next.ensures.steps in
    c.loop-node.invariant.looked k l ∙ back_all c.args.nodes.now c.args.marks.now _ k end
