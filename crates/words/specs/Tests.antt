-- Tests that the books share.
use Rattle.std.specs.Prelude.{ℕ, zero, suc, Bool, true, false, ◌&&◌, List, [], ◌∷◌, nat_le}
use Rattle.std.specs.List.{list_all}

-- each element passes
abbrev pub all : {X : Type 0} → (X → Bool) → List X → Bool
all P xs = list_all P xs

-- each number below it passes
abbrev pub all_below : ℕ → (ℕ → Bool) → Bool
all_below zero P = true
all_below (suc n) P = all_below n P && P n

-- from the low number to the high one
abbrev pub within : ℕ → ℕ → ℕ → Bool
within low high n = nat_le low n && nat_le n high

-- the list is empty
abbrev pub none : {X : Type 0} → List X → Bool
none [] = true
none (x ∷ xs) = false
