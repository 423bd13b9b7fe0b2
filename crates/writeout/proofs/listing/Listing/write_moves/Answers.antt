use Rattle.std.proofs.Common.{◌≡◌, ◌+◌, [], ◌∷◌, ◌++◌, map, get_or, take, sym, ap, ◌∙◌, subst}
use Rattle.std.proofs.lemmas.List.{map_more}
use Rattle.register.specs.Register.{keys_of}
use Rattle.model.specs.declared.Outcome.{Outcome}
use Rattle.pen.specs.Pens.{Adds}
use Rattle.pen.proofs.Laying.{adds_both}
use Rattle.sitelayout.proofs.Account.{moves-append}
use Rattle.sitelayout.specs.Layout.{move_words}
use Rattle.sitelayout.specs.OneWord.{word_of_move}
use Rattle.writeout.specs.Book.{move_to}
use Rattle.writeout.proofs.listing.Listing.write_moves.Goals as goal

pub loop-way-preserved : goal.loop-way-preserved
loop-way-preserved g c =
    let codes = keys_of c.args.self.now.codes.now in
    let os = c.as_slice-way-items.result.now in
    let i = c.loop-way.way-index in
    let d : Outcome = record { target = 0; weight = 0 } in
    let more : move_words (map (move_to codes) (take (i + 1) os)) ≡ move_words (map (move_to codes) (take i os)) ++ (word_of_move (move_to codes (get_or os i d)) ∷ []) =
    ap move_words (map_more (move_to codes) os i d c.loop-way-test.true) ∙ moves-append (map (move_to codes) (take i os)) (move_to codes (get_or os i d) ∷ []) in
    let one : Adds (word_of_move (move_to codes (get_or os i d)) ∷ []) c.loop-way.pen c.put.new.self =
    subst (λ w. Adds (w ∷ []) c.loop-way.pen c.put.new.self) (c.word.ensures ∙ ap (λ t. word_of_move (record { target = t; weight = (get_or os i d).weight })) c.place_of.ensures) c.put.ensures in
    subst (λ ws. Adds ws c.args.pen.now c.put.new.self) (sym more)
    (adds_both (move_words (map (move_to codes) (take i os))) (word_of_move (move_to codes (get_or os i d)) ∷ []) c.args.pen.now c.loop-way.pen c.put.new.self c.loop-way.invariant one)
