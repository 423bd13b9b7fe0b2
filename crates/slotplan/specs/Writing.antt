-- What a pile that is written out in memory comes to: the codes of its reachable states and the file of its book, with nothing after
-- them; or more states are reachable than a book holds.
use Rattle.std.specs.Prelude.{◌≡◌, ⊤, vec_items, Ok, Err, Result}
use Rattle.model.specs.Models.{Model}
use Rattle.slotplan.specs.declared.written.Book.{Book}
use Rattle.reach.specs.Reached.{MoreThan}
use Rattle.reach.specs.Search.{codes_of}
use Rattle.refusal.specs.declared.Refusal.{Refusal}
use Rattle.refusal.specs.declared.Refusal.TheVariants.{TooManyStates}
use Rattle.sitelayout.specs.Layout.{site_words}
use Rattle.words.specs.Format.{file}
use Rattle.writeout.specs.Tables.{Writable, out_book}

abbrev pub IsWrittenOut : Model → Result Book Refusal → Type 0
IsWrittenOut m (Ok b) =
    Writable m × ((vec_items b.codes ≡ codes_of m)
    × (vec_items b.bytes ≡ file (site_words (out_book m))))
IsWrittenOut m (Err r) = (r ≡ TooManyStates) × MoreThan m 4096

-- the answer of the test that comes before anything is allocated
abbrev pub StatesChecked : Model → Result ⊤ Refusal → Type 0
StatesChecked m (Ok u) = Writable m
StatesChecked m (Err r) = (r ≡ TooManyStates) × MoreThan m 4096
