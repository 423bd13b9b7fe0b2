-- The words of the book that is written out read back as that book: `book_reads_back`.
use Rattle.std.proofs.Common.{◌≡◌, ℕ, List}
use Rattle.model.specs.Models.{Model, Lawful}
use Rattle.words.specs.Format.{file, got, reading}
use Rattle.sitelayout.specs.Layout.{site_format, site_words}
use Rattle.sitelayout.proofs.Way.{site_faithful}
use Rattle.writeout.specs.Book.{book_of}
use Rattle.writeout.proofs.Closed.{Closed}
use Rattle.writeout.proofs.Validity.{book_valid}

pub book_reads_back : (m : Model) → Lawful m → (codes : List ℕ) → Closed m codes → reading site_format (file (site_words (book_of m codes))) ≡ got (book_of m codes)
book_reads_back m law codes from = site_faithful.back (book_of m codes) (book_valid m law codes from)
