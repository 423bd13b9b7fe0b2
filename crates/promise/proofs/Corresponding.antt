-- Paths correspond, from the laws of a pile and what writing out promises.
use mathlib.Core.Path.{◌≡◌}
use Rattle.model.proofs.Paths.{one_path_above}
use Rattle.pilemodel.specs.Piles.{piled, Piling, place_on, shown_on, Keeps}
use Rattle.writeout.specs.Tables.{Represents}
use Rattle.promise.specs.Corresponding.{book_model, place_in, Corresponds}

pub corresponds : (pile : Piling) → pile.model ≡ piled pile.base pile.floors → Keeps pile → Represents pile.model → Corresponds pile
corresponds pile stands keeps book = record {
  stands = stands;
  offers = keeps.offers;
  on_pile = keeps.unfolds;
  over_pile = keeps.one_path;
  in_book = λ few. book.carries few pile.base (shown_on pile) (place_on pile).code keeps.unfolds;
  over_book = λ few.
      one_path_above pile.base (shown_on pile) (book_model pile.model) (place_in pile)
      (book.carries few pile.base (shown_on pile) (place_on pile).code keeps.unfolds);
}
