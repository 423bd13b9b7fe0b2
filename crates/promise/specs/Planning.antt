-- Planning on the book that is written out of a pile: what is answered, what the tables hold after, and that the choices, taken as a
-- policy over histories of the ground model, earn exactly the worth, while no policy that chooses from the whole history earns more.
use Rattle.std.specs.Prelude.{◌≡◌, ℕ, ◌+◌, ◌*◌, length, ℤ, ◌≤ℤ◌, Some, None, Option, Ok, Err, Result}
use Rattle.std.specs.Option.{option_or}
use Rattle.model.specs.Models.{Model}
use Rattle.pilemodel.specs.Piles.{Piling, shown_on}
use Rattle.planning.specs.Plans.{answer_of, worth_at, choice_at, Left, tabled, sizes_refusal}
use Rattle.promise.specs.Corresponding.{book_model, place_in}
use Rattle.promise.specs.declared.causes.Unplanned.{Unplanned}
use Rattle.promise.specs.declared.causes.Unplanned.TheVariants.{Refused, Memory}
use Rattle.promise.specs.declared.plans.Plan.{Plan}
use Rattle.promise.specs.declared.plans.Tables.{Tables}
use Rattle.promise.specs.declared.plans.making.Ready.{Ready}
use Rattle.reach.specs.Search.{codes_of}
use Rattle.refusal.specs.declared.Refusal.{Refusal}
use Rattle.sitebook.specs.Contents.{contents}
use Rattle.sitelayout.specs.Layout.{site_words}
use Rattle.weighing.specs.Discounts.{discount_of}
use Rattle.weighmodel.specs.Weighings.{Weigh, LawfulWeigh}
use Rattle.words.specs.Format.{file}
use Rattle.worth.specs.Policies.{Policy, Admissible, earns, Best, planned}
use Rattle.worth.specs.Worths.{worth_of}
use Rattle.writeout.specs.declared.Written.{Written}
use Rattle.writeout.specs.Tables.{Writable, outcome, out_book, table_after, written_refusal}

-- what writing out answers over these tables, and what planning on the book answers
abbrev pub written_in : Model → Tables → Result Written Refusal
written_in m t = outcome m (length t.codes.now) (length t.bytes.now)

abbrev pub planned_in : Weigh → Model → ℕ → Tables → Result ℤ Refusal
planned_in w m horizon t =
    answer_of w (book_model m) horizon (length t.worths.now) (length t.choices.now)

-- why no plan is made, by the lengths of the four tables: writing out is tested first, and then the plan's sizes
abbrev pub plan_refusal : Model → ℕ → ℕ → ℕ → ℕ → ℕ → Option Refusal
plan_refusal m horizon places space worths choices =
    option_or (written_refusal m places space)
    (sizes_refusal (book_model m).span horizon worths choices)

abbrev pub refusal_in : Model → ℕ → Tables → Option Refusal
refusal_in m horizon t =
    plan_refusal m horizon (length t.codes.now) (length t.bytes.now)
    (length t.worths.now) (length t.choices.now)

-- the book of a pile as it reads back, and room for the plan's choices; or what is refused; or memory runs out where nothing is
abbrev pub ReadyAs : Model → ℕ → ℕ → ℕ → ℕ → ℕ → Result Ready Unplanned → Type 0
ReadyAs m horizon places space worths choices (Ok p) =
    (outcome m places space ≡ Ok p.written) × (contents p.book.book ≡ out_book m)
    × (sizes_refusal (book_model m).span horizon worths choices ≡ None)
ReadyAs m horizon places space worths choices (Err (Refused r)) =
    plan_refusal m horizon places space worths choices ≡ Some r
ReadyAs m horizon places space worths choices (Err (Memory e)) =
    plan_refusal m horizon places space worths choices ≡ None

-- the plan of the written-out book and its worth; or what is refused; or memory runs out where nothing is
abbrev pub PlansAs : Weigh → Model → ℕ → Tables → Result Plan Unplanned → Type 0
PlansAs w m horizon t (Ok p) =
    (written_in m t ≡ Ok p.written) × (contents p.book.book ≡ out_book m)
    × (planned_in w m horizon t ≡ Ok p.worth)
PlansAs w m horizon t (Err (Refused r)) = refusal_in m horizon t ≡ Some r
PlansAs w m horizon t (Err (Memory e)) = refusal_in m horizon t ≡ None

-- the codes and the book, or all 0 where they are refused; the plan, or what was there before
pub record TablesLeft (w : Weigh) (m : Model) (horizon : ℕ) (result : Result Plan Unplanned)
    (before after : Tables) : Type 0 where
  pub codes : after.codes.now
      ≡ table_after (written_in m before) (length before.codes.now) (codes_of m)
  pub bytes : after.bytes.now
      ≡ table_after (written_in m before) (length before.bytes.now) (file (site_words (out_book m)))
  pub worths : Left result (worth_at w (book_model m) horizon)
      ((horizon + 1) * (book_model m).span) before.worths.now after.worths.now
  pub choices : Left result (choice_at w (book_model m) horizon)
      (horizon * (book_model m).span) before.choices.now after.choices.now

-- the same four tables as before are lent
pub record TablesStay (before after : Tables) : Type 0 where
  pub codes : after.codes.ghost_name ≡ before.codes.ghost_name
  pub bytes : after.bytes.ghost_name ≡ before.bytes.ghost_name
  pub worths : after.worths.ghost_name ≡ before.worths.ghost_name
  pub choices : after.choices.ghost_name ≡ before.choices.ghost_name

-- the choices in the table as a policy over histories of the ground model: it goes to the listed state that the history leads to, and
-- takes the choice there for the slots left
abbrev pub plan_policy : Piling → ℕ → Tables → Policy
plan_policy pile horizon t =
    tabled t.choices.now (book_model pile.model).span (place_in pile) horizon

-- what a policy earns, by the rewards that the truth lines give each history
abbrev pub earned_on : Weigh → Piling → ℕ → Policy → ℤ
earned_on w pile horizon π = earns w discount_of pile.base (shown_on pile) horizon π

abbrev pub AdmissibleOn : Piling → ℕ → Policy → Type 0
AdmissibleOn pile horizon π = Admissible pile.base (shown_on pile) horizon π

-- the plan names offered actions alone, and earns exactly its worth
abbrev pub PlanEarns : Weigh → Piling → ℕ → Tables → Result Plan Unplanned → Type 0
PlanEarns w pile horizon t (Ok p) =
    AdmissibleOn pile horizon (plan_policy pile horizon t)
    × (earned_on w pile horizon (plan_policy pile horizon t) ≡ p.worth)
PlanEarns w pile horizon t (Err e) = Unit {0}

-- no policy that chooses from the whole history earns more
abbrev pub NobodyEarnsMore : Weigh → Piling → ℕ → Result Plan Unplanned → Type 0
NobodyEarnsMore w pile horizon (Ok p) =
    (π : Policy) → AdmissibleOn pile horizon π → earned_on w pile horizon π ≤ℤ p.worth
NobodyEarnsMore w pile horizon (Err e) = Unit {0}

-- what the start of a model is worth with all slots left
abbrev pub start_worth : Weigh → Model → ℕ → ℤ
start_worth w m horizon = worth_of w discount_of m horizon horizon m.start

-- a policy earns exactly so much on a pile, and no other earns more
abbrev pub BestOn : Weigh → Piling → ℕ → Policy → ℤ → Type 0
BestOn w pile horizon π worth = Best w discount_of pile.base (shown_on pile) horizon π worth

-- where the pile can be written out, this holds of the definitions for every lawful weighing and every horizon, whether or not memory
-- and tables sufficed: the plan on its book is the best
abbrev pub BestInBook : Piling → Type 0
BestInBook pile =
    Writable pile.model → (w : Weigh) → LawfulWeigh w → (horizon : ℕ)
    → BestOn w pile horizon (planned w discount_of (book_model pile.model) (place_in pile) horizon)
    (start_worth w (book_model pile.model) horizon)
