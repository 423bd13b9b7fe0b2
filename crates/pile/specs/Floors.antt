-- Floors as they lie in memory, and a pile that is built from a list of them.
use Rattle.std.specs.Prelude.{ℕ, zero, suc, List, [], ◌∷◌, ◌++◌, map, Some, None, Option, slice_index_or}
use Rattle.model.specs.Models.{Model}
use Rattle.wishbook.specs.declared.book.WishBook.{WishBook}
use Rattle.wishbook.specs.Contents.{contents}
use Rattle.pile.specs.declared.floor.Floor.{Floor as Slab}
use Rattle.pile.specs.declared.floor.Floor.TheVariants.{Bare, Wishes}
use Rattle.pilemodel.specs.Piles.{Floor, bare, wishes, Piling, piling}

abbrev pub floor_of : Slab → Floor
floor_of Bare = bare
floor_of (Wishes w) = wishes (contents w)

abbrev pub floors_in : List Slab → List Floor
floors_in fs = map floor_of fs

-- the floor of a layer in memory: its book, if it has one
abbrev pub slab_in : Option WishBook → Slab
slab_in None = Bare
slab_in (Some w) = Wishes w

-- floor number k of a list, the lowest being 0; past the end there is nothing
abbrev pub slab_at : List Slab → ℕ → Slab
slab_at fs k = slice_index_or fs k Bare

-- the first n
abbrev pub slabs_below : ℕ → List Slab → List Slab
slabs_below zero fs = []
slabs_below (suc n) fs = slabs_below n fs ++ (slab_at fs n ∷ [])

-- these floors on a ground model
abbrev pub pile_of : Model → List Slab → Piling
pile_of m fs = piling m (floors_in fs)
