-- A ground model alone as a pile, and one floor more on a pile.
use Rattle.std.specs.Prelude.{[], ◌∷◌, ◌++◌, Some, None, Option}
use Rattle.std.specs.Option.{option_map}
use Rattle.model.specs.Models.{Model}
use Rattle.wishbook.specs.declared.book.WishBook.{WishBook}
use Rattle.wishbook.specs.Contents.{contents}
use Rattle.layermodel.specs.Layered.{over}
use Rattle.pilemodel.specs.Piles.{Floor, bare, wishes, Piling}

-- the floor of a layer: its book, if it has one
abbrev pub floor_in : Option WishBook → Floor
floor_in None = bare
floor_in (Some w) = wishes (contents w)

-- a layer on a pile: one floor more
abbrev pub raised : Piling → Model → Option WishBook → Piling
raised p m o =
    record { base = p.base; floors = p.floors ++ (floor_in o ∷ []); model = over m (option_map contents o) }

-- a ground model alone
abbrev pub grounding : Model → Piling
grounding m = record { base = m; floors = []; model = m }
