-- The first n elements of a table are the keys: the write of a new key at n enters it, and they stay apart.
use Rattle.std.proofs.Common.{◌≡◌, ℕ, ◌+◌, ◌<◌, Bool, List, length, take, set, sym, ◌∙◌, subst, arith}
use Rattle.std.specs.Cmp.{IsEquivalence}
use Rattle.register.specs.Keys.{Equal, DistinctBy, place_of, enter}
use Rattle.register.proofs.Keys.{enter_new, enter_distinct}
use Rattle.std.proofs.lemmas.List.{take_more_set}

pub written : {K : Type 0} (eq : K → K → Bool) (k : K) (xs : List K) (n : ℕ) → n < length xs → place_of eq k (take n xs) ≡ length (take n xs) → take (n + 1) (set xs n k) ≡ enter eq k (take n xs)
written eq k xs n l new = take_more_set xs n k l ∙ sym (enter_new eq k (take n xs) (omega arith))

pub written_distinct : {K : Type 0} (eq : K → K → Bool) → IsEquivalence eq → (k : K) (xs : List K) (n : ℕ) → n < length xs → place_of eq k (take n xs) ≡ length (take n xs) → DistinctBy (Equal eq) (take n xs) → DistinctBy (Equal eq) (take (n + 1) (set xs n k))
written_distinct eq E k xs n l new apart =
    subst (DistinctBy (Equal eq)) (sym (written eq k xs n l new)) (enter_distinct eq E k (take n xs) apart)
