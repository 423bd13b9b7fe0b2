use Rattle.promise.proofs.Promising.{promises}
use Rattle.promise.proofs.writing.write_pile.Goals as goal

pub returns : goal.returns
returns g c =
    let told = c.write_out.ensures in
    record {
      answer = told.answer;
      codes = told.codes;
      bytes = told.bytes;
      pile = promises _ _ (g.met.P.Pile.laid c.args.pile.now) told.represents;
    }
