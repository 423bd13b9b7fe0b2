-- What a book that is written out says of the model: its states are the places of the listed states,
-- and masks, rewards, offers, outcomes in order and origins are those of the listed states. So it
-- unfolds whatever the model unfolds.
use Rattle.std.specs.Prelude.{◌≡◌, ℕ, ◌<◌, IsTrue, List, map, length, nat_eq, slice_index, slice_index_or}
use Rattle.model.specs.declared.Outcome.{Outcome}
use Rattle.model.specs.Histories.{Shown, Unfolds}
use Rattle.model.specs.Models.{Model}
use Rattle.register.specs.Keys.{place_of}
use Rattle.sitelayout.specs.Site.{Site, valid}
use Rattle.sitemodel.specs.Meaning.{site_model, origin_of}

-- the outcome of a listed state that an outcome of the book stands for
abbrev pub outcome_in_model : List ℕ → Outcome → Outcome
outcome_in_model codes o = record { target = slice_index codes o.target; weight = o.weight }

pub record Copies (m : Model) (codes : List ℕ) (b : Site) : Type 0 where
  pub sound : IsTrue (valid b)
  pub states : (site_model b).span ≡ length codes
  pub labels : (site_model b).labels ≡ m.labels
  pub actions : (site_model b).actions ≡ m.actions
  pub start : slice_index_or codes 0 0 ≡ m.start
  pub masks : (i : ℕ) → i < length codes → (site_model b).mask i ≡ m.mask (slice_index codes i)
  pub rewards : (i : ℕ) → i < length codes
      → (site_model b).reward i ≡ m.reward (slice_index codes i)
  pub origins : (i : ℕ) → i < length codes → origin_of b i ≡ m.site (slice_index codes i)
  pub offers : (i a : ℕ) → i < length codes
      → (site_model b).offered i a ≡ m.offered (slice_index codes i) a
  pub moves : (i a : ℕ) → i < length codes
      → map (outcome_in_model codes) ((site_model b).outcomes i a)
      ≡ m.outcomes (slice_index codes i) a

-- the book as a model whose site states are the origins
abbrev pub by_origin : Site → Model
by_origin b = record (site_model b) { site = origin_of b }

-- the place in the book at which a history stands
abbrev pub place_in_book : List ℕ → (List ℕ → ℕ) → List ℕ → ℕ
place_in_book codes code h = place_of nat_eq (code h) codes

-- whatever ground model m unfolds, the book unfolds by origins, with the same masks, rewards and
-- offers
abbrev pub CarriesOver : Model → List ℕ → Site → Type 0
CarriesOver m codes b =
    (g : Model) (sh : Shown) (code : List ℕ → ℕ) → Unfolds g sh m code
    → Unfolds g sh (by_origin b) (place_in_book codes code)
