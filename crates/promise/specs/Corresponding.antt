-- A pile, and the book that is written out of it: histories of the ground model, paths of the pile and paths of the book correspond one
-- to one. The site states of the book are its origins.
use Rattle.std.specs.Prelude.{List, ◌≡◌, ℕ}
use Rattle.model.specs.Histories.{Unfolds, OnePathAbove}
use Rattle.model.specs.Models.{Model}
use Rattle.pilemodel.specs.Piles.{piled, OffersAll, Piling, place_on, shown_on}
use Rattle.reach.specs.Search.{codes_of}
use Rattle.writeout.specs.Copies.{by_origin, place_in_book}
use Rattle.writeout.specs.Tables.{Writable, out_book}

-- the written-out book as a model
abbrev pub book_model : Model → Model
book_model m = by_origin (out_book m)

-- the place of the book at which a history of the ground model stands
abbrev pub place_in : Piling → List ℕ → ℕ
place_in pile = place_in_book (codes_of pile.model) (place_on pile).code

pub record Corresponds (pile : Piling) : Type 0 where
  pub stands : pile.model ≡ piled pile.base pile.floors
  pub offers : OffersAll pile
  pub on_pile : Unfolds pile.base (shown_on pile) pile.model (place_on pile).code
  pub over_pile : OnePathAbove pile.base (shown_on pile) pile.model
  pub in_book : Writable pile.model
      → Unfolds pile.base (shown_on pile) (book_model pile.model) (place_in pile)
  pub over_book : Writable pile.model
      → OnePathAbove pile.base (shown_on pile) (book_model pile.model)
