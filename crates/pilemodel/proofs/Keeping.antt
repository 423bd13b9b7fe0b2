-- The promise about piles, from the laws of the ground model and the soundness of the books alone.
use Rattle.std.proofs.Common.{◌≡◌, ℕ, Bool, true, false, cond, List, [], ◌∷◌, map, sym, refl, ◌∙◌, subst}
use Rattle.std.proofs.lemmas.List.{map-id}
use Rattle.model.specs.Histories.{final, by_itself, along, Unfolds}
use Rattle.model.proofs.Paths.{final-push, history_state, one_path_above}
use Rattle.model.specs.declared.Outcome.{Outcome}
use Rattle.model.specs.Models.{Model, Lawful, Ground}
use Rattle.layermodel.specs.Layered.{fits, layered}
use Rattle.layermodel.specs.Records.{code_over, shown_over}
use Rattle.layermodel.proofs.Unfolds.{layer_unfolds}
use Rattle.pilemodel.specs.Piles.{Floor, bare, wishes, floor_over, piled, Piling, piling, Place, on_ground, with_floor, with_floors, SoundFloor, SoundFloors, Laid, place_on, shown_on, Keeps}

map_keeps : (h : List ℕ) (os : List Outcome) → map (along final h) os ≡ os
map_keeps h os = (λ i. map (λ o. record { target = final-push h o.target i; weight = o.weight }) os) ∙ map-id os

-- a ground model unfolds itself
ground_unfolds : (g : Model) → Lawful g → Ground g → Unfolds g (by_itself g) g final
ground_unfolds g law ground = record {
  first = refl;
  states = history_state g law (by_itself g).offered;
  sites = λ h hist. ground.own (final h) (history_state g law (by_itself g).offered h hist);
  masks = λ h hist. refl;
  rewards = λ h hist. refl;
  offers = λ h hist a. refl;
  moves = λ h hist a off. sym (map_keeps h (g.outcomes (final h) a));
}

abbrev UnfoldsAt : Model → Model → Place → Type 0
UnfoldsAt g m at = Unfolds g at.shown m at.code

floor_unfolds : (g m : Model) (at : Place) (f : Floor) → SoundFloor f → UnfoldsAt g m at → UnfoldsAt g (floor_over m f) (with_floor m at f)
floor_unfolds g m at bare ok u = u
floor_unfolds g m at (wishes b) ok u = by_fit (fits m b)
  where
    by_fit : (t : Bool) → UnfoldsAt g (cond t (layered m b) m) (cond t (record { code = code_over at.code at.shown.mask b; shown = shown_over m.labels b at.shown }) at)
    by_fit true = layer_unfolds g at.shown m at.code u b ok
    by_fit false = u

floors_unfold : (g m : Model) (at : Place) (fs : List Floor) → SoundFloors fs → UnfoldsAt g m at → UnfoldsAt g (piled m fs) (with_floors m at fs)
floors_unfold g m at [] ok u = u
floors_unfold g m at (f ∷ fs) ok u = floors_unfold g (floor_over m f) (with_floor m at f) fs ok.1 (floor_unfolds g m at f ok.0 u)

-- no floor bars anything
floor_offers : (m : Model) (at : Place) (f : Floor) (h : List ℕ) (a : ℕ) → (with_floor m at f).shown.offered h a ≡ at.shown.offered h a
floor_offers m at bare h a = refl
floor_offers m at (wishes b) h a = by_fit (fits m b)
  where
    by_fit : (t : Bool) → (cond t (record { code = code_over at.code at.shown.mask b; shown = shown_over m.labels b at.shown }) at).shown.offered h a ≡ at.shown.offered h a
    by_fit true = refl
    by_fit false = refl

floors_offer : (m : Model) (at : Place) (fs : List Floor) (h : List ℕ) (a : ℕ) → (with_floors m at fs).shown.offered h a ≡ at.shown.offered h a
floors_offer m at [] h a = refl
floors_offer m at (f ∷ fs) h a = floors_offer (floor_over m f) (with_floor m at f) fs h a ∙ floor_offers m at f h a

-- the promise
pub pile_keeps : (g : Model) → Lawful g → Ground g → (fs : List Floor) → SoundFloors fs → Keeps (piling g fs)
pile_keeps g law ground fs ok =
    let u = floors_unfold g g (on_ground g) fs ok (ground_unfolds g law ground) in
    record {
      offers = floors_offer g (on_ground g) fs;
      unfolds = u;
      one_path = one_path_above g (shown_on (piling g fs)) (piled g fs) (place_on (piling g fs)).code u;
    }

-- a pile in memory is one of its floors on its ground model
pub laid_is : (m : Model) (p : Piling) → Laid m p → piling p.base p.floors ≡ p
laid_is m p l = λ i. record { base = p.base; floors = p.floors; model = sym l.stands i }

pub laid_keeps : (m : Model) (p : Piling) → Laid m p → Keeps p
laid_keeps m p l = subst Keeps (laid_is m p l) (pile_keeps p.base l.lawfully l.grounded p.floors l.sound)
