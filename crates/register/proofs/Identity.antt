-- Where the test of two keys is identity: keys that are equal are one value.
use Rattle.std.proofs.Common.{◌≡◌, ℕ, ◌<◌, Bool, true, eqb, List, [], length, get_or, sym, refl, ap, subst}
use Rattle.std.specs.Cmp.{IsEquivalence, both_ways as one_answer}
use Rattle.std.specs.List.{Contains}
use Rattle.std.proofs.lemmas.Bool.{both_ways, eqb-true, eq-eqb}
use Rattle.register.specs.Keys.{Equal, DistinctBy, Distinct, KeptBy, Kept, place_of, enter, enter_all}
use Rattle.register.proofs.Keys.{place_of_holds, place_of_fails, place_of_equal, enter_holds, enter_all_distinct as enter_all_apart}
use Rattle.register.proofs.Order.{enter_all_kept}

-- a test that holds of each key and itself, and of no two others
pub record IsIdentity {K : Type 0} (eq : K → K → Bool) : Type 0 where
  pub only : (x y : K) → eq x y ≡ true → x ≡ y
  pub self : (x : K) → eq x x ≡ true

-- the numbers' own test
pub eqb_identity : IsIdentity eqb
eqb_identity = record { only = eqb-true; self = λ x. eq-eqb x x refl }

module _ {K : Type 0} (eq : K → K → Bool) (is : IsIdentity eq) where
  from_identical : (x y : K) → x ≡ y → eq x y ≡ true
  from_identical x y e = subst (λ z. eq x z ≡ true) e (is.self x)

  pub identity_equivalence : IsEquivalence eq
  identity_equivalence = record {
    refl = is.self;
    symm = λ x y. one_answer (eq x y) (eq y x) (λ e. from_identical y x (sym (is.only x y e))) (λ e. from_identical x y (sym (is.only y x e)));
    congr = λ x y z e. ap (λ k. eq k z) (is.only x y e);
  }

  -- the key stands at its place
  pub place_of_at : (k : K) (ks : List K) (d : K) → place_of eq k ks < length ks → get_or ks (place_of eq k ks) d ≡ k
  place_of_at k ks d l = sym (is.only k (get_or ks (place_of eq k ks) d) (place_of_holds eq k ks d l))

  -- and nowhere before it
  pub place_of_before : (k : K) (ks : List K) (i : ℕ) (d : K) → i < place_of eq k ks → get_or ks i d ≡ k → ⊥
  place_of_before k ks i d l e = both_ways (eq k (get_or ks i d)) (place_of_fails eq k ks i d l) (from_identical k (get_or ks i d) (sym e))

  -- once it is entered, the key stands at its place
  pub enter_at : (k : K) (ks : List K) (d : K) → get_or (enter eq k ks) (place_of eq k ks) d ≡ k
  enter_at k ks d = sym (is.only k (get_or (enter eq k ks) (place_of eq k ks) d) (enter_holds eq identity_equivalence k ks d))

  -- what is entered into a list with no key twice leaves no key twice
  pub enter_all_distinct : (held ks : List K) → Distinct held → Distinct (enter_all eq held ks)
  enter_all_distinct held ks apart i j d l m e =
      let kept : DistinctBy (Equal eq) (enter_all eq held ks) =
      enter_all_apart eq identity_equivalence held ks (λ i j d l m same. apart i j d l m (is.only (get_or held i d) (get_or held j d) same)) in
      kept i j d l m (from_identical (get_or (enter_all eq held ks) i d) (get_or (enter_all eq held ks) j d) e)

  -- a list with no key twice gives each key its own place
  pub place_of-get_or : (ks : List K) (i : ℕ) (d : K) → Distinct ks → i < length ks → place_of eq (get_or ks i d) ks ≡ i
  place_of-get_or ks i d apart l =
      place_of_equal eq identity_equivalence (get_or ks i d) ks i d (λ i j d h m e. apart i j d h m (is.only (get_or ks i d) (get_or ks j d) e)) l (is.self (get_or ks i d))

  -- what is kept by the test is kept as it is
  kept_identical : (ks held : List K) → KeptBy (Equal eq) ks held → Kept ks held
  kept_identical ks held kept = record {
    once = λ i j d l m e. kept.once i j d l m (from_identical (get_or held i d) (get_or held j d) e);
    only = kept.only;
    every = λ x h. let had = kept.every x h in (had.0, had.1, is.only x had.0 had.2);
    first = λ j q d l m e. kept.first j q d l m (from_identical (get_or ks q d) (get_or held j d) e);
    order = λ i j q d l m n e. kept.order i j q d l m n (from_identical (get_or ks q d) (get_or held j d) e);
  }

  pub enter_all_identical : (ks : List K) → Kept ks (enter_all eq [] ks)
  enter_all_identical ks = kept_identical ks (enter_all eq [] ks) (enter_all_kept eq identity_equivalence ks)

-- each key that came is held
pub kept_has : {K : Type 0} (ks held : List K) → Kept ks held → (x : K) → Contains ks x → Contains held x
kept_has ks held kept x h = let had = kept.every x h in subst (Contains held) (sym had.2) had.1
