-- Books laid where they can be, and left out where they are refused.
use Rattle.std.specs.Prelude.{◌≡◌, ◌<◌, ◌≤◌, List, [], ◌∷◌, ◌++◌, length, take, Some, None, Option, IsNone, IsSome, if◌then◌else◌}
use Rattle.std.specs.List.{filter_map}
use Rattle.std.specs.Option.{option_map, option_to_list}
use Rattle.model.specs.Models.{Model}
use Rattle.refusal.specs.declared.Refusal.{Refusal}
use Rattle.wishbook.specs.declared.book.WishBook.{WishBook}
use Rattle.wishbook.specs.Contents.{contents}
use Rattle.layermodel.specs.Layered.{fits, over}
use Rattle.pilemodel.specs.Piles.{piled}
use Rattle.pilemodel.specs.Raised.{floor_in}
use Rattle.pile.specs.Stacks.{Stack, books_of, floor_refusal, why_not, books_as_floors}

-- the books that are laid, each on the model with those before it that are
abbrev pub laid_books : Model → List WishBook → List WishBook
laid_books m [] = []
laid_books m (w ∷ ws) =
    (if fits m (contents w) then w ∷ [] else []) ++ laid_books (over m (Some (contents w))) ws

-- the books that there are
abbrev pub present : List (Option WishBook) → List WishBook
present os = filter_map (λ o. o) os

-- the floors of the pile are those that are laid, in order
abbrev pub HasLaid : {G : Type 0} → Model → List WishBook → Stack G → Type 0
HasLaid m ws p = present (books_of p) ≡ laid_books m ws

-- what is known of the first books: their answers, the model with those that are laid, and which these are
pub record JudgedSoFar (base : Model) (ws : List WishBook) (answers : List (Option Refusal))
    (m : Model) (laid : List WishBook) : Type 0 where
  pub few : length answers ≤ length ws
  pub model : m ≡ piled base (books_as_floors (take (length answers) ws))
  pub noted : answers ≡ why_not base (books_as_floors (take (length answers) ws))
  pub kept : laid ≡ laid_books base (take (length answers) ws)

-- further books are judged on m, up to one that is laid on it, or to the end
pub record Judges (m : Model) (ws : List WishBook) (old new : List (Option Refusal))
    (o : Option WishBook) : Type 0 where
  pub judged : (base : Model) (laid : List WishBook) → JudgedSoFar base ws old m laid
      → JudgedSoFar base ws new (over m (option_map contents o)) (laid ++ option_to_list o)
  pub fits : floor_refusal m (floor_in o) ≡ None
  pub some : IsSome o → length old < length ws
  pub none : IsNone o → length ws ≤ length new
