-- What the states of a pile tell of each floor, by the plain words of truth: each bit of its memory, the bit of each of its wishes in
-- the mask, and the amounts in the reward.
use Rattle.std.specs.Prelude.{◌≡◌, ℕ, suc, ◌+◌, ◌<◌, Bool, IsTrue, ◌↔◌, if◌then◌else◌, List, [], ◌∷◌, ◌++◌, map, filter, fold, ◌+ℤ◌, Some, slice_index, slice_index_or}
use Rattle.std.specs.List.{slice_get}
use Rattle.formula.specs.declared.Item.{Item}
use Rattle.formula.specs.declared.Item.TheVariants.{Held, Failed}
use Rattle.formula.specs.Formulas.{Formula, truth, formulas}
use Rattle.model.specs.Histories.{final, Path}
use Rattle.model.specs.Models.{Model}
use Rattle.truth.specs.Truth.{Trace, labelled, holds, IsTrueAt}
use Rattle.wishbook.specs.Book.{Book}
use Rattle.wishlayout.specs.declared.Wish.{Wish}
use Rattle.wishlayout.specs.Wishes.{amount}
use Rattle.layermodel.specs.Layered.{fits, under, memory, over}
use Rattle.layermodel.specs.Records.{end_of}
use Rattle.pilemodel.specs.Piles.{Floor, bare, wishes, floor_over, piled, Piling}

-- the state of a model below a floor on it, and below several: divided by 65,536 once for each that is laid
abbrev pub below_floor : Model → Floor → ℕ → ℕ
below_floor m bare s = s
below_floor m (wishes b) s = if fits m b then under s else s

abbrev pub state_below : Model → List Floor → ℕ → ℕ
state_below m [] s = s
state_below m (f ∷ fs) s = below_floor m f (state_below (floor_over m f) fs s)

-- the memory of the book b on m, with the floors `upper` above it
abbrev pub memory_of_floor : Model → Book → List Floor → ℕ → ℕ
memory_of_floor m b upper s = memory (state_below (over m (Some b)) upper s)

-- the mask that m shows at each position of a path, with these floors on it
abbrev pub masks_below : Model → List Floor → List ℕ → Trace
masks_below m fs p i = m.mask (state_below m fs (slice_index p i))

-- what node number i of a book says
abbrev pub formula_at : Book → ℕ → Formula
formula_at b i = slice_index_or (formulas b.nodes) i truth

-- what an item tells of a position: that its node holds there, or that it does not
abbrev pub Told : Book → Trace → Item → ℕ → Type 0
Told b τ (Held i) j = IsTrueAt (formula_at b i) τ j
Told b τ (Failed i) j = IsTrueAt (formula_at b i) τ j → ⊥

-- one position earlier; there is none before the first
abbrev pub OneEarlier : ℕ → (ℕ → Type 0) → Type 0
OneEarlier n P = (j : ℕ) × ((suc j ≡ n) × P j)

abbrev pub wish_holds : Book → Trace → ℕ → Wish → Bool
wish_holds b τ n w = holds (formula_at b w.node) τ n

-- the book b lies on the model m with the floors `upper` above it, as a pile; p is a path of the pile
module _ (m : Model) (b : Book) (upper : List Floor) (pile : Model) (p : List ℕ) where
  -- the record that the floors below show along the path
  abbrev pub shown_below : Trace
  shown_below = masks_below m (wishes b ∷ upper) p

  -- at its end: the state of the book's layer, and the one below it
  abbrev pub state_here : ℕ
  state_here = state_below (over m (Some b)) upper (final p)

  abbrev pub state_under : ℕ
  state_under = state_below m (wishes b ∷ upper) (final p)

  pub record FloorTells : Type 0 where
    -- bit k of the memory is set just where item k told the truth one position earlier
    pub memory : (k : ℕ) (x : Item) → slice_get b.items k ≡ Some x
        → IsTrue (labelled (memory_of_floor m b upper (final p)) k) ↔ OneEarlier (end_of p) (Told b shown_below x)
    -- the bit of wish k, above the labels below, is set just where the wish holds at the end
    pub wishes : (k : ℕ) (w : Wish) → slice_get b.wishes k ≡ Some w
        → IsTrue (labelled (pile.mask (final p)) (m.labels + k)) ↔ IsTrueAt (formula_at b w.node) shown_below (end_of p)
    -- the bits of the labels below are those that the floors below show
    pub labels : (q : ℕ) → q < m.labels
        → labelled (pile.mask (final p)) q ≡ labelled (m.mask state_under) q
    -- the reward is the one below, and the amounts of just the wishes that hold at the end
    pub reward : (over m (Some b)).reward state_here
        ≡ fold ◌+ℤ◌ (m.reward state_under) (map amount (filter (wish_holds b shown_below (end_of p)) b.wishes))

-- along every path of a pile, each floor that is laid tells the truth, and below all floors is the ground state
pub record BitsTell (p : Piling) : Type 0 where
  pub site : (q : List ℕ) → Path p.model q
      → state_below p.base p.floors (final q) ≡ p.model.site (final q)
  pub floors : (lower : List Floor) (b : Book) (upper : List Floor)
      → p.floors ≡ lower ++ (wishes b ∷ upper) → IsTrue (fits (piled p.base lower) b)
      → (q : List ℕ) → Path p.model q → FloorTells (piled p.base lower) b upper p.model q
