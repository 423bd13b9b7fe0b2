use Rattle.std.proofs.Common.{sym, ap, ◌∙◌}
use Rattle.layermodel.proofs.Bits.{memory_tells, wishes_show, labels_stay}
use Rattle.pilemodel.proofs.Keeping.{laid_keeps}
use Rattle.pilemodel.proofs.Telling.{bits_tell}
use Rattle.pile.proofs.truthful.truthful_start.Goals as goal

pub returns : goal.returns
returns g c =
    let laid = g.met.P.Pile.laid c.args.pile.now in
    let keeps = laid_keeps _ _ laid in
    record {
      start = c.start.ensures.start ∙ ap (λ m. m.start) laid.means ∙ sym keeps.unfolds.first;
      meaning = laid.means;
      stands = laid.stands;
      keeps = keeps;
      memory = memory_tells;
      wishes = wishes_show;
      labels = labels_stay;
      bits = bits_tell _ _ laid;
    }
