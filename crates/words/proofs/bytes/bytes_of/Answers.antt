use Rattle.std.proofs.Common.{◌≡◌, vec_items, [], ◌∷◌, ◌++◌, take, slice_index_or, sym, ap, ◌∙◌, rules, arith}
use Rattle.std.proofs.lemmas.List.{take_more}
use Rattle.words.specs.Words.{bytes_of as bytes_in}
use Rattle.words.proofs.Encoding.{bytes_append}
use Rattle.words.proofs.bytes.bytes_of.Goals as goal

pub loop-word-preserved : goal.loop-word-preserved
loop-word-preserved c =
    let ws = c.args.words.now in
    let i = c.loop-word.word-index in
    let grown : vec_items c.extend_from_slice.new.self ≡ vec_items c.loop-word.file ++ bytes_in (slice_index_or ws i 0 ∷ []) = search rules in
    grown
    ∙ ap (λ l. l ++ bytes_in (slice_index_or ws i 0 ∷ [])) c.loop-word.invariant
    ∙ sym (bytes_append (take i ws) (slice_index_or ws i 0 ∷ []))
    ∙ ap bytes_in (sym (take_more ws i 0 (omega arith)))
