use Rattle.std.proofs.Common.{◌+◌, ◌*◌, ◌<◌, [], length, get_or, sym, ◌∙◌, arith}
use Rattle.std.proofs.lemmas.Nat.{mul-add-lt}
use Rattle.std.proofs.lemmas.Bool.{and_from, lt-ltb, cond-true}
use Rattle.sitebook.specs.Tables.{cut}
use Rattle.sitebook.proofs.Cells.{cut_at}
use Rattle.sitebook.proofs.book.SiteBook.cell.Goals as goal

-- it is one of the cells that the table has
pub returns : goal.returns
returns c =
    let t = c.args.self.now.tables in
    let s = c.args.s in
    let a = c.args.a in
    let here : s < length t.marks.items = omega (arith, c.len.ensures, c.if-s-len.false, t.marks.ok.0) in
    let inside = mul-add-lt s t.actions a (length t.marks.items) here c.if-a-self.false in
    c.cell.ensures
    ∙ sym (cond-true _ (get_or (cut (length t.marks.items * t.actions) t.starts.items t.moves.items) (s * t.actions + a) []) [] (and_from _ _ (lt-ltb s (length t.marks.items) here) (lt-ltb a t.actions c.if-a-self.false))
    ∙ cut_at (length t.marks.items * t.actions) t.starts.items t.moves.items (s * t.actions + a) (omega (arith, inside)))
