use Rattle.std.proofs.Common.{◌≡◌, ◌^◌, ◌<◌, [], ◌∷◌, ◌++◌, length, refl, sym, ap, ◌∙◌, subst, arith, rules}
use Rattle.register.specs.Register.{keys_of}
use Rattle.pen.specs.Pens.{HasWritten}
use Rattle.sitelayout.specs.Layout.{site_words}
use Rattle.words.specs.Words.{end_word}
use Rattle.writeout.specs.Book.{book_of}
use Rattle.writeout.specs.Tables.{words_in}
use Rattle.writeout.proofs.Booking.{laid_book_is, counted_some, written_book}
use Rattle.writeout.proofs.Wording.{book_small}
use Rattle.writeout.proofs.listing.Listing.write_book.Goals as goal

pub overflow_cast-before : goal.overflow_cast-before
overflow_cast-before g c =
    let m = g.M.SiteModel.meaning c.args.self.now.model.now in
    let codes = keys_of c.args.self.now.codes.now in
    let law = g.met.M.SiteModel.lawful c.args.self.now.model.now in
    let laid = laid_book_is m codes (length codes) m.labels m.actions c.new-pen.result c.write_head.new.pen c.write_marks.new.pen c.write_cells.new.pen refl refl refl c.new-pen.ensures.empty c.write_head.ensures c.write_marks.ensures c.write_cells.ensures in
    let some = counted_some _ (site_words (book_of m codes)) c.in_ok-before.before (sym (c.written.ensures (site_words (book_of m codes)) laid) ∙ c.in_ok-before.was) in
    let small = book_small m law codes c.args.self.now.few in
    let fits : c.in_ok-before.before < 2 ^ 28 = omega (arith, some.0, small) in
    omega arith

pub returns-clause-bytes : goal.returns-clause-bytes
returns-clause-bytes g c =
    let m = g.M.SiteModel.meaning c.args.self.now.model.now in
    let codes = keys_of c.args.self.now.codes.now in
    let law = g.met.M.SiteModel.lawful c.args.self.now.model.now in
    let laid = laid_book_is m codes (length codes) m.labels m.actions c.new-pen.result c.write_head.new.pen c.write_marks.new.pen c.write_cells.new.pen refl refl refl c.new-pen.ensures.empty c.write_head.ensures c.write_marks.ensures c.write_cells.ensures in
    let some = counted_some _ (site_words (book_of m codes)) c.in_ok-before.before (sym (c.written.ensures (site_words (book_of m codes)) laid) ∙ c.in_ok-before.was) in
    let small = book_small m law codes c.args.self.now.few in
    let last : c.end_word.result ≡ end_word c.in_ok-before.before = omega (arith, c.end_word.ensures, some.0, small) in
    let room = c.put.ensures.room ∙ c.write_cells.ensures.room ∙ c.write_marks.ensures.room ∙ c.write_head.ensures.room ∙ c.new-pen.ensures.room in
    let all : HasWritten (site_words (book_of m codes) ++ (end_word (length (site_words (book_of m codes))) ∷ [])) c.put.new.self =
    subst (λ n. HasWritten (site_words (book_of m codes) ++ (end_word n ∷ [])) c.put.new.self) some.0
    (subst (λ w. HasWritten (site_words (book_of m codes) ++ (w ∷ [])) c.put.new.self) last (c.put.ensures.laid (site_words (book_of m codes)) laid)) in
    let count : c.written-2.result ≡ words_in (length c.args.bytes.now) (book_of m codes) = c.written-2.ensures (site_words (book_of m codes) ++ (end_word (length (site_words (book_of m codes))) ∷ [])) all ∙ ap (λ n. words_in n (book_of m codes)) room in
    written_book (book_of m codes) c.put.new.self (length c.args.bytes.now) all room c.written-2.result count _ (search rules)
