-- What a number does to a walk, and why a choice is refused: one test for the walker and the reckoner.
use Rattle.std.specs.Prelude.{ℕ, Bool, [], ◌∷◌, Some, None, Option}
use Rattle.refusal.specs.declared.Refusal.{Refusal}
use Rattle.refusal.specs.declared.Refusal.TheVariants.{NotOffered, LastSlot}
use Rattle.refusal.specs.Rows.{first_failing}

-- the answer to a number, and what is after it
pub record Turn (W : Type 0) : Type 0 where
  pub refused : Option Refusal
  pub next : W

abbrev pub goes : {W : Type 0} → W → Turn W
goes w = record { refused = None; next = w }

-- a refusal changes nothing: w is what was before
abbrev pub refuses : {W : Type 0} → Refusal → W → Turn W
refuses why w = record { refused = Some why; next = w }

-- where nothing is refused it goes on; else it stays
abbrev pub turned : {W : Type 0} → Option Refusal → W → W → Turn W
turned None stays onward = goes onward
turned (Some why) stays onward = refuses why stays

-- why a choice is refused: no slot is left to choose in, then the action is not offered
abbrev pub choice_refusal : Bool → (ℕ → Bool) → ℕ → Option Refusal
choice_refusal slots offered a = first_failing ((slots, LastSlot) ∷ ((offered a, NotOffered) ∷ []))
