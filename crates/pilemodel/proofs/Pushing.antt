-- One floor more on a pile is again a pile.
use Rattle.std.specs.Prelude.{◌≡◌, List, [], ◌∷◌, ◌++◌, Some, None, Option, refl}
use Rattle.std.proofs.Common.{sym, ap, ◌∙◌}
use Rattle.std.specs.Option.{option_map}
use Rattle.model.specs.Models.{Model, Lawful, Ground}
use Rattle.wishbook.specs.declared.book.WishBook.{WishBook}
use Rattle.wishbook.specs.Contents.{contents}
use Rattle.layermodel.proofs.Books.{kept}
use Rattle.layermodel.specs.Layered.{over}
use Rattle.pilemodel.specs.Piles.{Floor, floor_over, piled, Piling, SoundFloor, SoundFloors, Laid}
use Rattle.pilemodel.specs.Raised.{floor_in, raised, grounding}

pub piled_push : (m : Model) (fs : List Floor) (f : Floor) → piled m (fs ++ (f ∷ [])) ≡ floor_over (piled m fs) f
piled_push m [] f = refl
piled_push m (x ∷ fs) f = piled_push (floor_over m x) fs f

pub sound_push : (fs : List Floor) (f : Floor) → SoundFloors fs → SoundFloor f → SoundFloors (fs ++ (f ∷ []))
sound_push [] f s ok = (ok, tt)
sound_push (x ∷ fs) f s ok = (s.0, sound_push fs f s.1 ok)

pub over_in : (m : Model) (o : Option WishBook) → floor_over m (floor_in o) ≡ over m (option_map contents o)
over_in m None = refl
over_in m (Some w) = refl

-- a wish book in memory is sound
pub book_sound : (o : Option WishBook) → SoundFloor (floor_in o)
book_sound None = tt
book_sound (Some w) = kept w

-- a ground model is a pile with no floor
pub laid_bare : (m : Model) → Lawful m → Ground m → Laid m (grounding m)
laid_bare m law own = record { means = refl; stands = refl; lawfully = law; grounded = own; sound = tt }

-- a book on a pile is a pile with one floor more
pub laid_push : (m : Model) (p : Piling) (o : Option WishBook) → Laid m p → Laid (over m (option_map contents o)) (raised p m o)
laid_push m p o l = record {
  means = refl;
  stands = ap (λ k. over k (option_map contents o)) (l.means ∙ l.stands) ∙ sym (over_in (piled p.base p.floors) o) ∙ sym (piled_push p.base p.floors (floor_in o));
  lawfully = l.lawfully;
  grounded = l.grounded;
  sound = sound_push p.floors (floor_in o) l.sound (book_sound o);
}
