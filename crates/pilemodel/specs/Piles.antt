-- A pile is a ground model with floors laid on it, one after another. What a history of the ground model shows and earns on a pile is
-- said by the truth lines, floor by floor: an upper book reads the wishes below it as labels.
use Rattle.std.specs.Prelude.{◌≡◌, ℕ, if◌then◌else◌, List, [], ◌∷◌, Some}
use Rattle.model.specs.Histories.{final, Shown, by_itself, Unfolds, OnePathAbove}
use Rattle.model.specs.Models.{Model, Lawful, Ground}
use Rattle.wishbook.specs.Book.{Book}
use Rattle.layermodel.specs.Layered.{fits, over}
use Rattle.layermodel.specs.Records.{code_over, shown_over, SoundBook}

-- a floor: nothing, or a wish book
pub data Floor : Type 0 where
  bare : Floor
  wishes : Book → Floor

-- a floor on a model; where there is nothing, or the book does not fit, the model below answers
abbrev pub floor_over : Model → Floor → Model
floor_over m bare = m
floor_over m (wishes b) = over m (Some b)

-- the floors laid on a model, the lowest first
abbrev pub piled : Model → List Floor → Model
piled m [] = m
piled m (f ∷ fs) = piled (floor_over m f) fs

-- a pile: its ground model, its floors, the lowest first, and what it means
pub record Piling : Type 0 where
  pub base : Model
  pub floors : List Floor
  pub model : Model

-- these floors on a ground model
abbrev pub piling : Model → List Floor → Piling
piling g fs = record { base = g; floors = fs; model = piled g fs }

-- where a history stands, and what it shows there
pub record Place : Type 0 where
  pub code : List ℕ → ℕ
  pub shown : Shown

-- on the ground model: at its last state
abbrev pub on_ground : Model → Place
on_ground g = record { code = final; shown = by_itself g }

-- with one floor more on the model m: a book that fits is judged by the truth lines
abbrev pub with_floor : Model → Place → Floor → Place
with_floor m at bare = at
with_floor m at (wishes b) =
    if fits m b
    then record { code = code_over at.code at.shown.mask b; shown = shown_over m.labels b at.shown }
    else at

abbrev pub with_floors : Model → Place → List Floor → Place
with_floors m at [] = at
with_floors m at (f ∷ fs) = with_floors (floor_over m f) (with_floor m at f) fs

abbrev pub SoundFloor : Floor → Type 0
SoundFloor bare = Unit {0}
SoundFloor (wishes b) = SoundBook b

abbrev pub SoundFloors : List Floor → Type 0
SoundFloors [] = Unit {0}
SoundFloors (f ∷ fs) = SoundFloor f × SoundFloors fs

-- a pile means sound floors laid on a lawful ground model
pub record Laid (m : Model) (p : Piling) : Type 0 where
  pub means : m ≡ p.model
  pub stands : p.model ≡ piled p.base p.floors
  pub lawfully : Lawful p.base
  pub grounded : Ground p.base
  pub sound : SoundFloors p.floors

-- where a history stands on a pile, and what it shows there
abbrev pub place_on : Piling → Place
place_on p = with_floors p.base (on_ground p.base) p.floors

abbrev pub shown_on : Piling → Shown
shown_on p = (place_on p).shown

-- wishes bar nothing: after every list of states a pile shows the offers of the ground model
abbrev pub OffersAll : Piling → Type 0
OffersAll p = (h : List ℕ) (a : ℕ) → (shown_on p).offered h a ≡ p.base.offered (final h) a

-- the promise: after every history of the ground model the pile stands where the truth lines say, shows and earns what they say, and
-- each history has just one path of the pile above it, with the ground's actions, outcome order and weights
pub record Keeps (p : Piling) : Type 0 where
  pub offers : OffersAll p
  pub unfolds : Unfolds p.base (shown_on p) p.model (place_on p).code
  pub one_path : OnePathAbove p.base (shown_on p) p.model
