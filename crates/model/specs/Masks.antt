-- Label masks: one bit for each label, label 0 in the lowest.
use Rattle.std.specs.Prelude.{ℕ, ◌/◌, ◌%◌, ◌^◌, Bool, ◌==◌}

-- the label p holds in a mask
abbrev pub labelled : ℕ → ℕ → Bool
labelled mask p = mask / 2 ^ p % 2 == 1
