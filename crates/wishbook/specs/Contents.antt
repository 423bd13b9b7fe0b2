-- What a wish book in memory holds, and what the reader's answer means.
use Rattle.std.specs.Prelude.{◌≡◌, ℕ, ◌<◌, List, length, Some, None, Ok, Err, Option, Result}
use Rattle.bounded.specs.Listed.{listed}
use Rattle.bounded.specs.declared.Bounded.{Bounded}
use Rattle.formula.specs.declared.Item.{Item}
use Rattle.refusal.specs.declared.Fault.{Fault}
use Rattle.words.specs.Format.{got, stop, reading}
use Rattle.wishlayout.specs.Wishes.{Wishes}
use Rattle.wishlayout.specs.Layout.{wish_format}
use Rattle.wishbook.specs.declared.book.WishBook.{WishBook}
use Rattle.wishbook.specs.Book.{Book, book_of}

abbrev pub contents : WishBook → Book
contents b = record { nodes = listed b.nodes; wishes = listed b.wishes; items = listed b.items }

-- the items, or there are more than 16
abbrev pub Remembered : List Item → Option (Bounded Item 16) → Type 0
Remembered items (Some kept) = listed kept ≡ items
Remembered items None = 16 < length items

-- the file was read as what the book comes from, or refused
abbrev pub Reads : List ℕ → Result WishBook Fault → Type 0
Reads bytes (Ok b) = (f : Wishes) × ((reading wish_format bytes ≡ got f) × (contents b ≡ book_of f))
Reads bytes (Err x) = reading wish_format bytes ≡ stop x.refusal x.place
