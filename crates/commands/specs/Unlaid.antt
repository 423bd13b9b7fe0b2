-- Why the books that options name do not make a pile.
use Rattle.anyhow.specs.declared.error.Error.{Error}
use Rattle.anyhow.specs.Error.{HasMessage}
use Rattle.model.specs.Models.{Model}
use Rattle.pile.specs.declared.laying.Unlaid.{Unlaid}
use Rattle.pile.specs.Stacks.{IsFirstRefused}
use Rattle.std.specs.Borrow.{Bor}
use Rattle.std.specs.Prelude.{ℕ, List, IfSome, Some, option_copied, slice_get}
use Rattle.wishbook.specs.declared.book.WishBook.{WishBook}

-- an error names file number k of a list, where there is one
abbrev pub NamesFile : List (Bor (List ℕ)) → ℕ → Error → Type 0
NamesFile files k e = IfSome (option_copied (slice_get files k)) (λ file. HasMessage (Some file) e)

-- the error names the file of the first book that is refused; floor k is book k, from file k
pub record NamesRefused (m : Model) (ws : List WishBook)
    (files : List (Bor (List ℕ))) (e : Error) : Type 0 where
  pub unlaid : Unlaid
  pub first : IsFirstRefused m ws unlaid
  pub named : NamesFile files unlaid.floor e
