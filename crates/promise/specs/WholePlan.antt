-- A plan on the written-out book of a pile, whole; the choice that it tells for a slot in a
-- listed state; and the advice that it gives to a walk on its book: what the plan, as a policy over histories of the ground model, names
-- after the record of the crossing so far.
use Rattle.std.specs.Prelude.{◌≡◌, ℕ, ◌-◌, ◌*◌, if◌then◌else◌, ◌&&◌, List, length, Some, None, Option, nat_le, nat_lt, vec_items}
use Rattle.model.specs.Models.{Model}
use Rattle.pilemodel.specs.Piles.{Piling, shown_on}
use Rattle.planning.specs.Choices.{PicksLowest}
use Rattle.planning.specs.Plans.{choice_at, HoldsTo, tabled}
use Rattle.promise.specs.Corresponding.{Corresponds, book_model, place_in}
use Rattle.promise.specs.Planning.{BestOn, start_worth}
use Rattle.promise.specs.declared.advising.Advice.{Advice}
use Rattle.promise.specs.declared.advising.Advice.TheVariants.{Choose, Tell, Ended}
use Rattle.promise.specs.declared.plans.Plan.{Plan}
use Rattle.reach.specs.Search.{codes_of}
use Rattle.sitebook.specs.Contents.{contents}
use Rattle.walk.specs.Reckoner.{Reckoner, begins, reckoned_after}
use Rattle.walk.specs.Walker.{Walk, begun, reached}
use Rattle.weighing.specs.Discounts.{discount_of}
use Rattle.weighmodel.specs.Weighings.{Weigh}
use Rattle.worth.specs.Policies.{Policy}
use Rattle.worth.specs.Worths.{choice_of}
use Rattle.writeout.specs.Tables.{Writable, out_book, word_count}

-- the plan's choices as a policy: it goes to the listed state that the history leads to, and takes the choice there for the slots left
abbrev pub policy_of : Piling → Plan → Policy
policy_of pile p =
    tabled (vec_items p.choices) (book_model pile.model).span (place_in pile) p.horizon

pub record IsPlanOf (w : Weigh) (pile : Piling) (horizon : ℕ) (p : Plan) : Type 0 where
  pub corresponds : Corresponds pile
  pub writable : Writable pile.model
  pub states : p.written.states ≡ length (codes_of pile.model)
  pub words : p.written.words ≡ word_count pile.model
  pub book : contents p.book.book ≡ out_book pile.model
  pub slots : p.horizon ≡ horizon
  pub unit : p.unit ≡ w.unit
  pub worth : p.worth ≡ start_worth w (book_model pile.model) horizon
  -- a choice for each listed state and each number of slots left, by the backward rule: the lowest of the best
  pub size : length (vec_items p.choices) ≡ horizon * (book_model pile.model).span
  pub choices : HoldsTo (choice_at w (book_model pile.model) horizon) (horizon * (book_model pile.model).span) (vec_items p.choices)
  pub lowest : PicksLowest w (book_model pile.model) horizon (vec_items p.choices)
  -- they earn exactly the worth, and no policy that chooses from the whole history earns more
  pub best : BestOn w pile horizon (policy_of pile p) p.worth

-- the choice by the backward rule for a slot in a state; from the horizon on there is none
abbrev pub choice_for : Weigh → Model → ℕ → ℕ → ℕ → Option ℕ
choice_for w m horizon slot state =
    if nat_lt slot horizon && nat_lt state m.span
    then Some (choice_of w discount_of m horizon (horizon - slot - 1) state)
    else None

-- whatever the plan is one of, it tells the choices of that
abbrev pub TellsChoice : Plan → ℕ → ℕ → Option ℕ → Type 0
TellsChoice p slot state answer =
    (w : Weigh) (pile : Piling) (horizon : ℕ) → IsPlanOf w pile horizon p
    → answer ≡ choice_for w (book_model pile.model) horizon slot state

-- with no choice open, after so many states: what the policy names for the slots left, and past the horizon nothing; with a choice open
-- its outcome is to be told first
abbrev pub advice_by : Policy → ℕ → List ℕ → Option ℕ → Advice
advice_by π horizon h None = if nat_le (length h) horizon then Choose (π h) else Ended
advice_by π horizon h (Some a) = Tell

-- for what the reckoner has
abbrev pub advice_after : Policy → ℕ → Reckoner → Advice
advice_after π horizon r = advice_by π horizon r.history r.chosen

-- to a walk on the book of the plan, after whatever numbers
abbrev pub AdvisesAsPolicy : Plan → Walk → Advice → Type 0
AdvisesAsPolicy p walk answer =
    (w : Weigh) (pile : Piling) (horizon : ℕ) → IsPlanOf w pile horizon p
    → (ns : List ℕ)
    → walk
    ≡ reached discount_of (book_model pile.model) (begun discount_of (book_model pile.model)) ns
    → answer ≡ advice_after (policy_of pile p) horizon (reckoned_after pile.base (shown_on pile) (begins pile.base) ns)
