-- Equal keys, and keys that are one value, are the same.
use Rattle.std.proofs.Common.{Bool, sym, refl, ◌∙◌}
use Rattle.std.specs.Cmp.{IsEquivalence}
use Rattle.register.specs.Keys.{Equal, Identical}

pub record Sameness {K : Type 0} (Same : K → K → Type 0) : Type 0 where
  pub itself : (x : K) → Same x x
  pub back : (x y : K) → Same x y → Same y x
  pub through : (x y z : K) → Same x y → Same y z → Same x z

pub equal_sameness : {K : Type 0} (eq : K → K → Bool) → IsEquivalence eq → Sameness (Equal eq)
equal_sameness eq E = record {
  itself = E.refl;
  back = λ x y e. E.symm y x ∙ e;
  through = λ x y z e f. E.congr x y z e ∙ f;
}

pub identical_sameness : {K : Type 0} → Sameness {K = K} Identical
identical_sameness = record {
  itself = λ x. refl;
  back = λ x y e. sym e;
  through = λ x y z e f. e ∙ f;
}
