use Rattle.std.proofs.Common.{◌≡◌, rules}
use Rattle.wishbook.specs.Contents.{contents}
use Rattle.layermodel.specs.Verdicts.{recalled, recalled_by}
use Rattle.layermodel.proofs.Recalling.{judged}
use Rattle.layermodel.proofs.verdicts.judge.Goals as goal

pub returns : goal.returns
returns c =
    let w = contents c.args.book.now in
    let told : recalled_by c.of.result ≡ recalled w.items c.args.memory = search rules in
    judged c.args.mask _ (recalled w.items c.args.memory) _ w.nodes _ c.truths.ensures told c.nodes.ensures
