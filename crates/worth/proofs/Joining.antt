-- Joined values: they rise with the values of the targets, and those along a longer history are those of the histories.
-- For others: `joined_raises`, `joined_same` and `joined_along`.
use Rattle.std.proofs.Common.{◌≡◌, ℕ, suc, List, [], ◌∷◌, ◌++◌, map, ℤ, ◌≤ℤ◌, refl, arith}
use Rattle.std.specs.List.{Contains}
use Rattle.model.specs.declared.Outcome.{Outcome}
use Rattle.model.specs.Histories.{targets_of, along}
use Rattle.weighmodel.specs.Weighings.{Weigh, LawfulWeigh}
use Rattle.worth.specs.Worths.{joined_from}

pub has_first : (t : ℕ) (ts : List ℕ) → Contains (t ∷ ts) t
has_first t ts = (0, omega arith, refl)

pub has_later : (u : ℕ) (ts : List ℕ) (t : ℕ) → Contains ts t → Contains (u ∷ ts) t
has_later u ts t (k, l, at) = (suc k, omega arith, at)

-- raising the values of the targets never lowers the joined value
pub joined_raises : (w : Weigh) → LawfulWeigh w → (lower upper : ℕ → ℤ) (x y : ℤ) (os : List Outcome) → x ≤ℤ y → ((t : ℕ) → Contains (targets_of os) t → lower t ≤ℤ upper t) → joined_from w lower x os ≤ℤ joined_from w upper y os
joined_raises w law lower upper x y [] h each = h
joined_raises w law lower upper x y (o ∷ os) h each =
    joined_raises w law lower upper (w.join x o.weight (lower o.target)) (w.join y o.weight (upper o.target)) os
    (law.raising x y o.weight (lower o.target) (upper o.target) h (each o.target (has_first o.target (targets_of os))))
    (λ t has. each t (has_later o.target (targets_of os) t has))

-- only the values of the targets count
pub joined_same : (w : Weigh) (values others : ℕ → ℤ) (x y : ℤ) (os : List Outcome) → x ≡ y → ((t : ℕ) → Contains (targets_of os) t → values t ≡ others t) → joined_from w values x os ≡ joined_from w others y os
joined_same w values others x y [] e each = e
joined_same w values others x y (o ∷ os) e each =
    joined_same w values others (w.join x o.weight (values o.target)) (w.join y o.weight (others o.target)) os
    (λ i. w.join (e i) o.weight (each o.target (has_first o.target (targets_of os)) i))
    (λ t has. each t (has_later o.target (targets_of os) t has))

-- where outcomes lead to longer histories, the values joined are those of the longer histories
pub joined_along : (w : Weigh) (value : ℕ → ℤ) (code : List ℕ → ℕ) (h : List ℕ) (x : ℤ) (os : List Outcome) → joined_from w value x (map (along code h) os) ≡ joined_from w (λ t. value (code (h ++ (t ∷ [])))) x os
joined_along w value code h x [] = refl
joined_along w value code h x (o ∷ os) = joined_along w value code h (w.join x o.weight (value (code (h ++ (o.target ∷ []))))) os
