-- What a reward counts in each slot, in 256ths: each discount is 15 times the one before, divided by 16 and rounded down.
use Rattle.std.specs.Prelude.{◌≡◌, ℕ, ◌+◌, ◌*◌, ◌/◌, ◌<◌, ◌≤◌, List, [], ◌∷◌, length, slice_index}

abbrev pub discounts : List ℕ
discounts =
    256
    ∷ (240 ∷ (225 ∷ (210 ∷ (196 ∷ (183 ∷ (171 ∷ (160 ∷ (150 ∷ (140 ∷ (131 ∷ (122 ∷ (114 ∷ []))))))))))))

-- the discount of a slot, 0 past the last
abbrev pub discount_of : ℕ → ℕ
discount_of slot = slice_index discounts slot

-- the rule of a table of thirteen discounts
pub record Discounted (gs : List ℕ) : Type 0 where
  pub slots : length gs ≡ 13
  pub first : slice_index gs 0 ≡ 256
  pub rule : (i : ℕ) → i < 12 → slice_index gs (i + 1) ≡ 15 * slice_index gs i / 16
  pub last : slice_index gs 12 ≡ 114
  pub bound : (i : ℕ) → slice_index gs i ≤ 256
