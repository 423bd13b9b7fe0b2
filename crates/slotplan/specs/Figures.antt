-- A worth as a figure of rewards, and how a figure is printed.
use Rattle.std.specs.Prelude.{Bool, ℕ, ◌+◌, ◌*◌, ◌/◌, ◌%◌, ◌^◌, max, min, List, [], ◌∷◌, ◌++◌, codes, decimal}
use Rattle.std.specs.Fmt.{sign_text}

-- in how many parts of a reward a worth counts: the first slot's discount, and the unit once more for each slot. A unit counts as one
-- of 1 to 8, and a horizon as at most 12
abbrev pub parts_of : ℕ → ℕ → ℕ
parts_of unit horizon = 256 * max 1 (min unit 8) ^ min horizon 12

-- three digits of a number below 1000
abbrev pub three_digits : ℕ → List ℕ
three_digits n = (48 + n / 100) ∷ ((48 + n / 10 % 10) ∷ ((48 + n % 10) ∷ []))

-- the sign, the whole part in decimal digits, a point and three digits
abbrev pub figure_text : Bool → ℕ → ℕ → List ℕ
figure_text negative whole thousandths =
    sign_text negative ++ decimal whole ++ codes "." ++ three_digits thousandths
