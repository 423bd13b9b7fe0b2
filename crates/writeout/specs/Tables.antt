-- What writing out answers, and what it leaves in the two tables.
use Rattle.std.specs.Prelude.{◌≡◌, ℕ, ◌+◌, ◌*◌, ◌<◌, ◌≤◌, Bool, List, [], ◌∷◌, ◌++◌, length, Ok, Err, Option, Result, nat_le}
use Rattle.model.specs.Models.{Model}
use Rattle.pen.specs.Bytes.{zero_padded}
use Rattle.pen.specs.Pens.{counted}
use Rattle.reach.specs.Adding.{room_in}
use Rattle.reach.specs.Reached.{ListsReached, MoreThan}
use Rattle.reach.specs.Search.{codes_of}
use Rattle.refusal.specs.declared.Refusal.{Refusal}
use Rattle.refusal.specs.declared.Refusal.TheVariants.{TooManyStates, BookTableShort}
use Rattle.refusal.specs.Rows.{first_failing, unless}
use Rattle.sitelayout.specs.Layout.{site_format, site_words}
use Rattle.sitelayout.specs.Site.{Site}
use Rattle.words.specs.Format.{file, got, reading}
use Rattle.words.specs.Words.{end_word}
use Rattle.writeout.specs.declared.Written.{Written}
use Rattle.writeout.specs.Book.{book_of}
use Rattle.writeout.specs.Copies.{Copies, CarriesOver}

-- a model can be written out where at most 4,096 states are reachable
abbrev pub Writable : Model → Type 0
Writable m = length (codes_of m) ≤ 4096

-- the book of a model
abbrev pub out_book : Model → Site
out_book m = book_of m (codes_of m)

-- the number of words, with head and end
abbrev pub word_count : Model → ℕ
word_count m = length (site_words (out_book m)) + 1

-- the code table, and 4,096, have room for the listed states
abbrev pub enough_places : Model → ℕ → Bool
enough_places m places = nat_le (length (codes_of m)) (room_in places)

-- the book table has room for the book
abbrev pub enough_space : Model → ℕ → Bool
enough_space m space = nat_le (4 * word_count m) space

-- what writing out into tables of so many places and bytes is refused for
abbrev pub written_refusal : Model → ℕ → ℕ → Option Refusal
written_refusal m places space =
    first_failing
    ((enough_places m places, TooManyStates)
    ∷ (enough_space m space, BookTableShort)
    ∷ [])

abbrev pub outcome : Model → ℕ → ℕ → Result Written Refusal
outcome m places space =
    unless (written_refusal m places space)
    (record { states = length (codes_of m); words = word_count m })

-- the words of a book, with its end word, where a table of so many bytes holds them
abbrev pub words_in : ℕ → Site → Option ℕ
words_in space b = counted space (site_words b ++ (end_word (length (site_words b)) ∷ []))

-- a table of n places afterwards: all 0 on a refusal
abbrev pub table_after : Result Written Refusal → ℕ → List ℕ → List ℕ
table_after (Ok w) n xs = zero_padded n xs
table_after (Err r) n xs = zero_padded n []

-- the listed codes and the book stand for the model: the codes are exactly the reached states where
-- these are at most 4,096, and else there are more than the table holds; the book reads back, and
-- says of each listed state what the model says
pub record Represents (m : Model) : Type 0 where
  pub lists : Writable m → ListsReached m (codes_of m)
  pub exceeds : (n : ℕ) → n < length (codes_of m) → MoreThan m n
  pub back : Writable m → reading site_format (file (site_words (out_book m))) ≡ got (out_book m)
  pub copies : Writable m → Copies m (codes_of m) (out_book m)
  pub carries : Writable m → CarriesOver m (codes_of m) (out_book m)
