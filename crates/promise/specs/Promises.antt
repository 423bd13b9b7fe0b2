-- What holds of every pile, whatever is asked of it and whatever comes of it.
use Rattle.std.specs.Prelude.{◌≡◌}
use Rattle.model.specs.Models.{Model}
use Rattle.pilemodel.specs.Piles.{Piling}
use Rattle.promise.specs.Corresponding.{Corresponds}
use Rattle.promise.specs.Planning.{BestInBook}
use Rattle.promise.specs.Walking.{AgreeInBook, AgreeOnPile, StandsInBook, StandsOnPile}
use Rattle.writeout.specs.Tables.{Represents}

-- m is what the type of the pile means
pub record Promises (m : Model) (pile : Piling) : Type 0 where
  pub means : m ≡ pile.model
  -- the listed codes are exactly those of the reachable states, and the book that is written out says of each what the pile says
  pub represents : Represents pile.model
  -- histories of the ground model, paths of the pile and paths of the book correspond one to one
  pub corresponds : Corresponds pile
  -- walker and reckoner agree through every list of numbers, accepted or not, and the walk stands where the record leads
  pub agrees_on_pile : AgreeOnPile pile
  pub agrees_in_book : AgreeInBook pile
  pub stands_on_pile : StandsOnPile pile
  pub stands_in_book : StandsInBook pile
  -- under every lawful weighing the plan is the best, and nobody who holds the whole record earns more
  pub best : BestInBook pile
