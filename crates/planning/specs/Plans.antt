-- What planning answers and what it leaves in its two tables: worths at (slots left) × states + state, choices at
-- (slots left − 1) × states + state.
use Rattle.std.specs.Prelude.{◌≡◌, ℕ, ◌+◌, ◌-◌, ◌*◌, ◌/◌, ◌%◌, ◌<◌, ◌≤◌, Bool, ◌&&◌, List, [], ◌∷◌, length, drop, ℤ, pos, Ok, Err, Option, Result, nat_le, slice_index, slice_index_or}
use Rattle.model.specs.Histories.{Shown, Unfolds}
use Rattle.model.specs.Models.{Model}
use Rattle.refusal.specs.declared.Refusal.{Refusal}
use Rattle.refusal.specs.declared.Refusal.TheVariants.{HorizonTooLong, PlanTableShort}
use Rattle.refusal.specs.Rows.{first_failing, unless}
use Rattle.weighing.specs.Discounts.{discount_of}
use Rattle.weighmodel.specs.Weighings.{Weigh}
use Rattle.worth.specs.declared.Pick.{Pick}
use Rattle.worth.specs.Policies.{Policy, Best}
use Rattle.worth.specs.Worths.{worth_of, choice_of}

-- the worth that is stored at a place; what there is no place for counts 0
abbrev pub stored_worth : List ℤ → ℕ → ℤ
stored_worth worths p = slice_index_or worths p (pos 0)

-- by place, for a model whose states are the numbers below its span
abbrev pub worth_at : Weigh → Model → ℕ → ℕ → ℤ
worth_at w m horizon p = worth_of w discount_of m horizon (p / m.span) (p % m.span)

abbrev pub choice_at : Weigh → Model → ℕ → ℕ → ℕ
choice_at w m horizon p = choice_of w discount_of m horizon (p / m.span) (p % m.span)

-- what is found at a place: the worth there, and the choice that stands a row before it
pub record EntryAt (w : Weigh) (m : Model) (horizon place : ℕ) (entry : Pick) : Type 0 where
  pub worth : entry.value ≡ worth_at w m horizon place
  pub choice : m.span ≤ place → entry.action ≡ choice_at w m horizon (place - m.span)

-- the first n places hold what f says
abbrev pub HoldsTo : {X : Type 0} → (ℕ → X) → ℕ → List X → Type 0
HoldsTo {X = X} f n xs = (p : ℕ) (d : X) → p < n → slice_index_or xs p d ≡ f p

-- so they do, and later places are untouched
pub record Filled {X : Type 0} (f : ℕ → X) (n : ℕ) (before after : List X) : Type 0 where
  pub places : HoldsTo f n after
  pub size : length after ≡ length before
  pub later : drop n after ≡ drop n before

-- tables of so many worths and choices hold all places of a plan for so many states
abbrev pub tables_hold : ℕ → ℕ → ℕ → ℕ → Bool
tables_hold states horizon worths choices =
    nat_le ((horizon + 1) * states) worths && nat_le (horizon * states) choices

-- why no plan is made, from the sizes alone
abbrev pub sizes_refusal : ℕ → ℕ → ℕ → ℕ → Option Refusal
sizes_refusal states horizon worths choices =
    first_failing (
    (nat_le horizon 12, HorizonTooLong)
    ∷ ((tables_hold states horizon worths choices, PlanTableShort) ∷ []))

-- for tables of so many worths and choices: the plan's worth, or a refusal
abbrev pub answer_of : Weigh → Model → ℕ → ℕ → ℕ → Result ℤ Refusal
answer_of w m horizon worths choices =
    unless (sizes_refusal m.span horizon worths choices)
    (worth_of w discount_of m horizon horizon m.start)

-- what is left in the tables: a refusal leaves them untouched
abbrev pub Left : {V E X : Type 0} → Result V E → (ℕ → X) → ℕ → List X → List X → Type 0
Left (Ok v) f n before after = Filled f n before after
Left (Err r) f n before after = after ≡ before

-- the choice table as a policy: it goes to the state that the history stands at, and takes the choice for the slots left
abbrev pub tabled : List ℕ → ℕ → (List ℕ → ℕ) → ℕ → Policy
tabled choices states code horizon h = slice_index choices ((horizon - length h) * states + code h)

-- whatever ground model m unfolds: the plan as a policy earns exactly the worth, and no policy from the whole history earns more
abbrev pub NobodyBetter : Weigh → Model → ℕ → List ℕ → Result ℤ Refusal → Type 0
NobodyBetter w m horizon choices (Ok v) =
    (g : Model) (sh : Shown) (code : List ℕ → ℕ) → Unfolds g sh m code
    → Best w discount_of g sh horizon (tabled choices m.span code horizon) v
NobodyBetter w m horizon choices (Err r) = Unit {0}
