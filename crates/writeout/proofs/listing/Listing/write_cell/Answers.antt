use Rattle.std.proofs.Common.{◌≡◌, ◌+◌, ◌*◌, ◌/◌, ◌<◌, ◌≤◌, [], ◌∷◌, map, length, sym, ap, ◌∙◌, subst, arith, rules}
use Rattle.std.proofs.lemmas.Nat.{div-mul-add, mod-mul-add}
use Rattle.std.proofs.lemmas.List.{length-map}
use Rattle.register.specs.Register.{keys_of}
use Rattle.pen.specs.Pens.{Adds}
use Rattle.pen.proofs.Laying.{adds_both}
use Rattle.sitelayout.specs.Layout.{move_words, cell_word}
use Rattle.sitelayout.specs.OneWord.{word_of_entry}
use Rattle.writeout.specs.Book.{move_to, cell_of}
use Rattle.writeout.proofs.Wording.{cell_said}
use Rattle.writeout.proofs.listing.Listing.write_cell.Goals as goal

pub returns-then-not-is_empty : goal.returns-then-not-is_empty
returns-then-not-is_empty g c =
    let m = g.M.SiteModel.meaning c.args.self.now.model.now in
    let codes = keys_of c.args.self.now.codes.now in
    let k = c.args.place * m.actions + c.args.action in
    let cell = cell_of m codes c.args.code c.args.action in
    let size : length (cell_of m codes c.args.code c.args.action) ≡ c.len.result = length-map (m.outcomes c.args.code c.args.action) (move_to codes) ∙ sym (c.len.ensures.count ∙ ap length c.outcomes-outcomes.ensures.outcomes) in
    let some : 0 < length (cell_of m codes c.args.code c.args.action) = search (rules, size) in
    let words : word_of_entry c.args.place c.args.action c.len.result ∷ move_words cell ≡ cell_word m.actions k cell =
    ap (λ n. word_of_entry c.args.place c.args.action n ∷ move_words cell) (sym size)
    ∙ ap (λ s. word_of_entry s c.args.action (length cell) ∷ move_words cell) (sym (div-mul-add c.args.place m.actions c.args.action c.requires))
    ∙ ap (λ a. word_of_entry (k / m.actions) a (length cell) ∷ move_words cell) (sym (mod-mul-add c.args.place m.actions c.args.action c.requires))
    ∙ sym (cell_said m.actions k cell some) in
    let law = g.met.M.SiteModel.lawful c.args.self.now.model.now in
    let few : c.len.result ≤ 8 = omega (arith, size, length-map (m.outcomes c.args.code c.args.action) (move_to codes), law.moves.few c.args.code c.args.action) in
    let entry : c.word.result ≡ word_of_entry c.args.place c.args.action c.len.result = omega (arith, c.word.ensures, c.ranges.place.fits, c.requires, law.moves.acts.1, few) in
    let head : Adds (word_of_entry c.args.place c.args.action c.len.result ∷ []) c.args.pen.now c.put.new.self =
    subst (λ w. Adds (w ∷ []) c.args.pen.now c.put.new.self) entry c.put.ensures in
    let moves : Adds (move_words cell) c.put.new.self c.write_moves.new.pen =
    subst (λ os. Adds (move_words (map (move_to codes) os)) c.put.new.self c.write_moves.new.pen) c.outcomes-outcomes.ensures.outcomes c.write_moves.ensures in
    subst (λ ws. Adds ws c.args.pen.now c.write_moves.new.pen) words
    (adds_both (word_of_entry c.args.place c.args.action c.len.result ∷ []) (move_words cell) c.args.pen.now c.put.new.self c.write_moves.new.pen head moves)
