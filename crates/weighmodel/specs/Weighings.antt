-- A weighing joins the values of an action's outcomes into one: the value so far with a weight and a value. All values are held within
-- ±2^59. *Mean* adds weight times value, and *worst* takes the lesser.
use Rattle.std.specs.Prelude.{◌≡◌, ℕ, ◌^◌, ◌≤◌, min, ℤ, pos, ◌+ℤ◌, ◌*ℤ◌, neg_ℤ, ◌≤ℤ◌}
use Rattle.std.specs.Int.{int_max, int_min}

-- the largest size of a value
abbrev pub most : ℤ
most = pos (2 ^ 59)

abbrev pub least : ℤ
least = neg_ℤ (pos (2 ^ 59))

-- a value held within ±2^59
abbrev pub held : ℤ → ℤ
held x = int_min most (int_max least x)

abbrev pub Within : ℤ → Type 0
Within x = (least ≤ℤ x) × (x ≤ℤ most)

-- `join` takes the value so far, a weight and a value
pub record Weigh : Type 0 where
  pub unit : ℕ
  pub first : ℤ
  pub join : ℤ → ℕ → ℤ → ℤ

pub record LawfulWeigh (w : Weigh) : Type 0 where
  pub unit_small : (1 ≤ w.unit) × (w.unit ≤ 8)
  pub first_held : Within w.first
  pub result_held : (x : ℤ) (k : ℕ) (v : ℤ) → Within (w.join x k v)
  -- what a joining is given is first held
  pub given_held : (x : ℤ) (k : ℕ) (v : ℤ) → w.join x k v ≡ w.join (held x) (min k 8) (held v)
  -- raising a value, or the value so far, never lowers the joined one
  pub raising : (x y : ℤ) (k : ℕ) (u v : ℤ) → x ≤ℤ y → u ≤ℤ v → w.join x k u ≤ℤ w.join y k v

abbrev pub mean : Weigh
mean =
    record { unit = 8; first = pos 0; join = λ x k v. held (held x +ℤ (pos (min k 8) *ℤ held v)) }

abbrev pub worst : Weigh
worst = record { unit = 1; first = most; join = λ x k v. int_min (held x) (held v) }

-- the same with nothing held
abbrev pub free_mean : Weigh
free_mean = record { unit = 8; first = pos 0; join = λ x k v. x +ℤ (pos k *ℤ v) }

abbrev pub free_worst : Weigh
free_worst = record { unit = 1; first = most; join = λ x k v. int_min x v }
