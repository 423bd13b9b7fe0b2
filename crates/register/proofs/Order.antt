-- Entering keys one after another keeps the first of those that are equal, in the order in which they came; and no other list is what is kept of them.
use Rattle.std.proofs.Common.{◌≡◌, Bool, List, [], length, arith}
use Rattle.std.proofs.lemmas.List.{same_lists}
use Rattle.std.specs.Cmp.{IsEquivalence}
use Rattle.register.specs.Keys.{Equal, KeptBy, enter_all}
use Rattle.register.proofs.Agree.{agree, no_longer}
use Rattle.register.proofs.Sameness.{Sameness}
use Rattle.register.proofs.Steps.{kept_none, kept_all}

pub enter_all_kept : {K : Type 0} (eq : K → K → Bool) → IsEquivalence eq → (ks : List K) → KeptBy (Equal eq) ks (enter_all eq [] ks)
enter_all_kept eq E ks = kept_all eq E [] [] ks (kept_none (Equal eq))

pub kept_unique : {K : Type 0} (Same : K → K → Type 0) → Sameness Same → (ks a b : List K) → KeptBy Same ks a → KeptBy Same ks b → a ≡ b
kept_unique Same is ks a b ka kb =
    same_lists a b (omega (arith, no_longer Same is ks a b ka kb, no_longer Same is ks b a kb ka))
    (λ k d h. (agree Same is ks a b ka kb d (length a) (omega arith)).1 k h)
