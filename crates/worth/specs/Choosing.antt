-- Which action a choice takes: the lowest of the offered ones that reaches the largest value.
use Rattle.std.specs.Prelude.{◌≡◌, ℕ, ◌<◌, Bool, IsTrue, ℤ, ◌≤ℤ◌, ◌<ℤ◌}
use Rattle.worth.specs.declared.Pick.{Pick}

-- the pick is one of the actions below n that are offered, with its value
pub record Picks (offers : ℕ → Bool) (values : ℕ → ℤ) (n : ℕ) (p : Pick) : Type 0 where
  pub inside : p.action < n
  pub offered : IsTrue (offers p.action)
  pub valued : p.value ≡ values p.action
  -- no offered action has a larger value, and each lower one has a smaller value
  pub largest : (a : ℕ) → a < n → IsTrue (offers a) → values a ≤ℤ p.value
  pub lowest : (a : ℕ) → a < p.action → IsTrue (offers a) → values a <ℤ p.value
