-- A pile that is built from a list of floors: one floor more, and floors with nothing on them.
use Rattle.std.proofs.Common.{◌≡◌, ℕ, zero, suc, List, [], ◌∷◌, ◌++◌, drop, get_or, length, take, Some, None, Option, sym, refl, ap, ◌∙◌, arith}
use Rattle.std.proofs.lemmas.List.{map-append}
use Rattle.std.specs.Option.{option_map}
use Rattle.model.specs.Models.{Model}
use Rattle.wishbook.specs.declared.book.WishBook.{WishBook}
use Rattle.wishbook.specs.Contents.{contents}
use Rattle.layermodel.specs.Layered.{over}
use Rattle.pile.specs.declared.floor.Floor.{Floor as Slab}
use Rattle.pile.specs.declared.floor.Floor.TheVariants.{Bare}
use Rattle.pilemodel.specs.Piles.{floor_over, piled, Piling}
use Rattle.pilemodel.specs.Raised.{floor_in, raised}
use Rattle.pilemodel.proofs.Pushing.{over_in, piled_push}
use Rattle.pile.specs.Floors.{floor_of, floors_in, pile_of, slab_at, slab_in, slabs_below}

-- the next floor, and those after it
pub next_slab : (fs : List Slab) (n : ℕ) (f : Slab) (rest : List Slab) → drop n fs ≡ f ∷ rest → (slab_at fs n ≡ f) × (drop (suc n) fs ≡ rest)
next_slab [] zero f rest e = absurd (omega (arith, ap length e))
next_slab [] (suc n) f rest e = absurd (omega (arith, ap length e))
next_slab (x ∷ fs) zero f rest e = (ap (λ l. get_or l 0 Bare) e, ap (drop 1) e)
next_slab (x ∷ fs) (suc n) f rest e = next_slab fs n f rest e

-- there is none
pub no_slab : (fs : List Slab) (n : ℕ) → length (drop n fs) ≡ 0 → (slab_at fs n ≡ Bare) × (length (drop (suc n) fs) ≡ 0)
no_slab [] zero e = (refl, refl)
no_slab [] (suc n) e = (refl, refl)
no_slab (x ∷ fs) zero e = absurd (omega (arith, e))
no_slab (x ∷ fs) (suc n) e = no_slab fs n e

pub none_left : {X : Type 0} (xs ys : List X) → length xs ≡ 0 → length ys ≡ 0 → xs ≡ ys
none_left [] [] e h = refl
none_left [] (y ∷ ys) e h = absurd (omega (arith, h))
none_left (x ∷ xs) ys e h = absurd (omega (arith, e))

floor_is : (o : Option WishBook) → floor_in o ≡ floor_of (slab_in o)
floor_is None = refl
floor_is (Some w) = refl

-- a layer on a pile of floors is a pile of these and its own
pub raised_is : (g m : Model) (p : Piling) (fs : List Slab) (o : Option WishBook) → p ≡ pile_of g fs → m ≡ p.model → raised p m o ≡ pile_of g (fs ++ (slab_in o ∷ []))
raised_is g m p fs o is means =
    let more : floors_in fs ++ (floor_in o ∷ []) ≡ floors_in (fs ++ (slab_in o ∷ [])) =
    ap (λ f. floors_in fs ++ (f ∷ [])) (floor_is o) ∙ sym (map-append floor_of fs (slab_in o ∷ [])) in
    let model : over m (option_map contents o) ≡ piled g (floors_in (fs ++ (slab_in o ∷ []))) =
    ap (λ k. over k (option_map contents o)) (means ∙ ap (λ (q : Piling). q.model) is)
    ∙ sym (over_in (piled g (floors_in fs)) o)
    ∙ sym (piled_push g (floors_in fs) (floor_in o))
    ∙ ap (piled g) more in
    λ i. record { base = (is i).base; floors = (ap (λ (q : Piling). q.floors ++ (floor_in o ∷ [])) is ∙ more) i; model = model i }

-- the first n floors, and nothing above the last
piled_next : (m : Model) (fs : List Slab) (n : ℕ) → floor_over (piled m (floors_in (take n fs))) (floor_of (slab_at fs n)) ≡ piled m (floors_in (take (suc n) fs))
piled_next m [] zero = refl
piled_next m [] (suc n) = refl
piled_next m (f ∷ fs) zero = refl
piled_next m (f ∷ fs) (suc n) = piled_next (floor_over m (floor_of f)) fs n

pub piled_below : (m : Model) (fs : List Slab) (n : ℕ) → piled m (floors_in (slabs_below n fs)) ≡ piled m (floors_in (take n fs))
piled_below m fs zero = refl
piled_below m fs (suc n) =
    ap (piled m) (map-append floor_of (slabs_below n fs) (slab_at fs n ∷ []))
    ∙ piled_push m (floors_in (slabs_below n fs)) (floor_of (slab_at fs n))
    ∙ ap (λ k. floor_over k (floor_of (slab_at fs n))) (piled_below m fs n)
    ∙ piled_next m fs n

-- one floor more
pub tower_next : (g m : Model) (p : Piling) (fs : List Slab) (n : ℕ) (o : Option WishBook) → p ≡ pile_of g (slabs_below n fs) → m ≡ p.model → slab_in o ≡ slab_at fs n → raised p m o ≡ pile_of g (slabs_below (suc n) fs)
tower_next g m p fs n o is means here = raised_is g m p (slabs_below n fs) o is means ∙ ap (λ f. pile_of g (slabs_below n fs ++ (f ∷ []))) here

pub tower_means : (g m : Model) (p : Piling) (fs : List Slab) (n : ℕ) (o : Option WishBook) → p ≡ pile_of g (slabs_below n fs) → m ≡ p.model → slab_in o ≡ slab_at fs n → over m (option_map contents o) ≡ piled g (floors_in (take (suc n) fs))
tower_means g m p fs n o is means here = ap (λ (q : Piling). q.model) (tower_next g m p fs n o is means here) ∙ piled_below g fs (suc n)
