-- What a book is written from, and the places of what is listed. For others: `Closed`, and `place_below`, `place_code` and
-- `place_one` of the place of a listed code.
use Rattle.std.proofs.Common.{◌≡◌, ℕ, ◌<◌, ◌≤◌, true, eqb, List, length, get_or, sym, ap, ◌∙◌, ⊎_elim, arith}
use Rattle.std.specs.List.{Contains}
use Rattle.std.proofs.lemmas.Bool.{cases_lt}
use Rattle.model.specs.declared.Outcome.{Outcome}
use Rattle.model.specs.Models.{Model}
use Rattle.register.specs.Keys.{Distinct, place_of}
use Rattle.register.proofs.Identity.{eqb_identity, place_of_at, place_of_before}
use Rattle.reach.specs.Reached.{Reached}

-- what the book is written from: different states, with all their targets among them
pub record Closed (m : Model) (codes : List ℕ) : Type 0 where
  pub once : Distinct codes
  pub states : (c : ℕ) → Contains codes c → m.state c ≡ true
  pub targets : (c a j : ℕ) (d : Outcome) → Contains codes c → j < length (m.outcomes c a) → Contains codes (get_or (m.outcomes c a) j d).target
  pub every : (c : ℕ) → Reached m c → Contains codes c
  pub some : 1 ≤ length codes
  pub few : length codes ≤ 4096
  pub first : get_or codes 0 0 ≡ m.start

-- a listed code has a place
pub place_below : (codes : List ℕ) (c : ℕ) → Contains codes c → place_of eqb c codes < length codes
place_below codes c has =
    ⊎_elim
    (λ (h : place_of eqb c codes < length codes). h)
    (λ (h : length codes ≤ place_of eqb c codes). absurd (place_of_before eqb eqb_identity c codes has.0 c (omega (arith, has.1)) has.2))
    (cases_lt (place_of eqb c codes) (length codes))

-- and stands there
pub place_code : (codes : List ℕ) (c : ℕ) → Contains codes c → get_or codes (place_of eqb c codes) 0 ≡ c
place_code codes c has = place_of_at eqb eqb_identity c codes 0 (place_below codes c has)

-- so that different codes have different places
pub place_one : (codes : List ℕ) (c d : ℕ) → Contains codes c → Contains codes d → place_of eqb c codes ≡ place_of eqb d codes → c ≡ d
place_one codes c d hc hd e = sym (place_code codes c hc) ∙ ap (λ k. get_or codes k 0) e ∙ place_code codes d hd
