use Rattle.std.proofs.Common.{◌≡◌, ◌∷◌, ◌++◌, append_assoc, sym, ap, ◌∙◌}
use Rattle.std.specs.Fmt.{decimal, sign_text, styled_decimal}
use Rattle.std.proofs.Output.{has_written_of_eq}
use Rattle.slotplan.specs.Figures.{figure_text}
use Rattle.slotplan.proofs.Printing.{wide, three_wide}
use Rattle.slotplan.proofs.figures.FigureDisplay.fmt.Goals as goal
use Rattle.slotplan.proofs.figures.FigureDisplay.fmt.Goals.{then-self, else-self}

pub returns-clause-writes : goal.returns-clause-writes
returns-clause-writes g c =
    let f = c.args.self.now in
    let sign : c.if-self.sign.now ≡ sign_text f.negative = elim c.if-self.branch [
      | then-self w ↦ ap (λ s. s.now) w.sign-is ∙ sym (ap sign_text w.if-self.true)
      | else-self w ↦ ap (λ s. s.now) w.sign-is ∙ sym (ap sign_text w.if-self.false)
    ] in
    let places : styled_decimal c.laid_out.result f.thousandths ≡ wide f.thousandths = ap (λ s. styled_decimal s f.thousandths) c.laid_out.ensures in
    let text : c.if-self.sign.now ++ (decimal f.whole ++ 46 ∷ styled_decimal c.laid_out.result f.thousandths) ≡ figure_text f.negative f.whole f.thousandths =
    (λ i. sign i ++ (decimal f.whole ++ 46 ∷ (places ∙ three_wide f.thousandths f.small) i)) ∙ simp append_assoc in
    λ plain ok. has_written_of_eq _ _ _ _ _ text (c.write.ensures.writes plain ok)
