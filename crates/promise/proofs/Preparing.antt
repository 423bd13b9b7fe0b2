-- What is refused before anything is allocated, and that memory may be wanting only where nothing is. For others: `states_are`,
-- `after_written`, `refused_writing`, `told_error`,
-- `unplanned_as` and `memory_as`.
use Rattle.std.proofs.Common.{◌≡◌, ℕ, Some, None, Ok, Err, Result, sym, ap, ◌∙◌}
use Rattle.std.specs.Option.{option_or}
use Rattle.std.specs.Result.{IsErrAnd}
use Rattle.model.specs.Models.{Model}
use Rattle.planning.specs.Plans.{sizes_refusal}
use Rattle.refusal.proofs.Rows.{refused_by, unrefused}
use Rattle.promise.specs.Causes.{OutOfMemory}
use Rattle.promise.specs.Corresponding.{book_model}
use Rattle.promise.specs.Planning.{PlansAs, ReadyAs, plan_refusal}
use Rattle.promise.specs.declared.causes.Unplanned.{Unplanned}
use Rattle.promise.specs.declared.causes.Unplanned.TheVariants.{Refused, Memory}
use Rattle.promise.specs.declared.plans.Tables.{Tables}
use Rattle.weighmodel.specs.Weighings.{Weigh}
use Rattle.writeout.proofs.Outcomes.{wrote}
use Rattle.refusal.specs.declared.Refusal.{Refusal}
use Rattle.writeout.specs.declared.Written.{Written}
use Rattle.writeout.specs.Tables.{Represents, outcome, word_count, written_refusal}
use Rattle.reach.specs.Search.{codes_of}
use Rattle.std.specs.Prelude.{length}

module _ (m : Model) (h places space a b : ℕ) where
  -- the book has a state for each listed one
  pub states_are : Represents m → (w : Written) → outcome m places space ≡ Ok w → w.states ≡ (book_model m).span
  states_are book w out = let told = wrote m places space w out in told.states ∙ sym (book.copies told.few).states

  abbrev whole : Written
  whole = record { states = length (codes_of m); words = word_count m }

  -- after writing out the test of sizes decides
  pub after_written : Represents m → (w : Written) → outcome m places space ≡ Ok w → plan_refusal m h places space a b ≡ sizes_refusal w.states h a b
  after_written book w out =
      ap (λ o. option_or o (sizes_refusal (book_model m).span h a b)) (unrefused (written_refusal m places space) whole w out)
      ∙ ap (λ n. sizes_refusal n h a b) (sym (states_are book w out))

  -- where writing out is refused, that is the refusal
  pub refused_writing : (r : Refusal) → outcome m places space ≡ Err r → plan_refusal m h places space a b ≡ Some r
  refused_writing r out = ap (λ o. option_or o (sizes_refusal (book_model m).span h a b)) (refused_by (written_refusal m places space) whole r out)

  pub memory_as : (why : Unplanned) → OutOfMemory why → plan_refusal m h places space a b ≡ None → ReadyAs m h places space a b (Err why)
  memory_as (Refused r) out is = absurd out
  memory_as (Memory e) out is = is

-- what keeps a plan from being made ready keeps it from being made
pub unplanned_as : (w : Weigh) (m : Model) (h : ℕ) (t : Tables) (why : Unplanned) → ReadyAs m h (length t.codes.now) (length t.bytes.now) (length t.worths.now) (length t.choices.now) (Err why) → PlansAs w m h t (Err why)
unplanned_as w m h t (Refused r) is = is
unplanned_as w m h t (Memory e) is = is

-- an answer that is told to be this error
pub told_error : {A : Type 0} (r : Result A Unplanned) (why : Unplanned) → IsErrAnd r (λ e. e ≡ why) → r ≡ Err why
told_error (Err e) why is = ap Err is
told_error (Ok a) why is = absurd is
