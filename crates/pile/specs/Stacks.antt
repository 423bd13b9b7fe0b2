-- A pile of nought to three wish books as it lies in memory, and which of a list of books can be laid.
use Rattle.std.specs.Prelude.{◌≡◌, ℕ, ◌<◌, ◌≤◌, List, [], ◌∷◌, map, length, take, Some, None, Option}
use Rattle.std.specs.List.{slice_get}
use Rattle.model.specs.Models.{Model, sizes_of}
use Rattle.refusal.specs.declared.Refusal.{Refusal}
use Rattle.wishbook.specs.declared.book.WishBook.{WishBook}
use Rattle.wishbook.specs.Contents.{contents}
use Rattle.layer.specs.declared.layers.Layer.{Layer}
use Rattle.layermodel.specs.Layered.{refusal}
use Rattle.layer.specs.InMemory.{meaning_of}
use Rattle.pile.specs.declared.footing.Footing.{Footing}
use Rattle.pile.specs.declared.laying.Unlaid.{Unlaid}
use Rattle.pilemodel.specs.Piles.{Floor, bare, wishes, floor_over, piled}
use Rattle.pilemodel.specs.Raised.{floor_in}

-- the type `Three`
abbrev pub Stack : Type 0 → Type 0
Stack G = Layer (Layer (Layer (Footing G)))

-- the ground model at the bottom
abbrev pub ground_of : {G : Type 0} → Stack G → G
ground_of p = p.below.below.below.bottom

-- the books that lie on it, the lowest first, also where they are refused
abbrev pub books_of : {G : Type 0} → Stack G → List (Option WishBook)
books_of p = p.below.below.book ∷ (p.below.book ∷ (p.book ∷ []))

abbrev pub floors_of : {G : Type 0} → Stack G → List Floor
floors_of p = map floor_in (books_of p)

-- why a floor is not laid on a model; nothing where it is laid, or there is no book
abbrev pub floor_refusal : Model → Floor → Option Refusal
floor_refusal m bare = None
floor_refusal m (wishes b) = refusal (sizes_of m) b

-- the same for each floor, on the model below it as it stands
abbrev pub why_not : Model → List Floor → List (Option Refusal)
why_not m [] = []
why_not m (f ∷ fs) = floor_refusal m f ∷ why_not (floor_over m f) fs

-- books as floors, and book number k as one; past the last there is nothing
abbrev pub books_as_floors : List WishBook → List Floor
books_as_floors ws = map (λ w. wishes (contents w)) ws

abbrev pub floor_at : List WishBook → ℕ → Floor
floor_at ws k = floor_in (slice_get ws k)

-- why book number k cannot be laid on the pile of those before it
abbrev pub refusal_at : Model → List WishBook → ℕ → Option Refusal
refusal_at m ws k = floor_refusal (piled m (books_as_floors (take k ws))) (floor_at ws k)

abbrev pub AllLaid : Model → List WishBook → Type 0
AllLaid m ws = (k : ℕ) → refusal_at m ws k ≡ None

-- every book before this one is laid, and this one is refused for this reason
pub record IsFirstRefused (m : Model) (ws : List WishBook) (e : Unlaid) : Type 0 where
  pub before : (j : ℕ) → j < e.floor → refusal_at m ws j ≡ None
  pub refused : refusal_at m ws e.floor ≡ Some e.refusal

-- floor k is book k, and no book is left over
pub record HasFloors {G : Type 0} (p : Stack G) (ws : List WishBook) : Type 0 where
  pub few : length ws ≤ 3
  pub floors : books_of p ≡ slice_get ws 0 ∷ (slice_get ws 1 ∷ (slice_get ws 2 ∷ []))

-- the pile means all the books on the ground model
abbrev pub IsPileOf : {G : Type 0} → (G → Model) → G → List WishBook → Stack G → Type 0
IsPileOf mean bottom ws p =
    meaning_of (meaning_of (meaning_of (λ f. mean f.bottom))) p
    ≡ piled (mean bottom) (books_as_floors ws)
