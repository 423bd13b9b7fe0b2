-- In tables that hold the largest plan nothing is refused that was not found before: `plan_told`.
use Rattle.std.proofs.Common.{◌≡◌, ℕ, ◌+◌, ◌*◌, ◌≤◌, true, cond, ◌&&◌, leb, length, Some, None, Ok, Err, Result, refl, subst, sym, ap, ◌∙◌, le_trans, mul-le-mul, arith}
use Rattle.std.proofs.lemmas.Bool.{cond-true, le-leb}
use Rattle.std.proofs.lemmas.Option.{none-some}
use Rattle.std.specs.Option.{option_or}
use Rattle.model.specs.Models.{Model, Lawful}
use Rattle.pilemodel.specs.Piles.{Piling}
use Rattle.planning.specs.Plans.{sizes_refusal, tables_hold}
use Rattle.refusal.proofs.Rows.{unrefused}
use Rattle.promise.specs.Corresponding.{book_model}
use Rattle.promise.specs.Planning.{PlansAs, plan_refusal}
use Rattle.promise.specs.WholePlan.{IsPlanOf}
use Rattle.promise.specs.declared.causes.Unplanned.{Unplanned}
use Rattle.promise.specs.declared.causes.Unplanned.TheVariants.{Refused, Memory}
use Rattle.promise.specs.declared.plans.Plan.{Plan}
use Rattle.promise.specs.declared.plans.Tables.{Tables}
use Rattle.reach.specs.Search.{codes_of}
use Rattle.refusal.specs.declared.Refusal.{Refusal}
use Rattle.refusal.specs.declared.Refusal.TheVariants.{HorizonTooLong, PlanTableShort}
use Rattle.std.specs.Prelude.{IfOk}
use Rattle.weighmodel.specs.Weighings.{Weigh}
use Rattle.writeout.specs.declared.Written.{Written}
use Rattle.writeout.specs.Tables.{Represents, Writable, outcome, word_count, written_refusal}
use Rattle.slotplan.specs.Planning.{PlansOr}
use Rattle.slotplan.proofs.Holding.{passed}

-- the sizes of the plan are not refused
sizes_fine : (s h a b : ℕ) → s ≤ 4096 → h ≤ 12 → 53248 ≤ a → 49152 ≤ b → sizes_refusal s h a b ≡ None
sizes_fine s h a b few short worths choices =
    let long : h + 1 ≤ 13 = omega (arith, short) in
    let one : (h + 1) * s ≤ 53248 = mul-le-mul long few in
    let two : h * s ≤ 49152 = mul-le-mul short few in
    let first = le-leb ((h + 1) * s) a (le_trans one worths) in
    let second = le-leb (h * s) b (le_trans two choices) in
    let both : tables_hold s h a b ≡ true = ap (λ x. x && leb (h * s) b) first ∙ second in
    cond-true (leb h 12) (cond (tables_hold s h a b) None (Some PlanTableShort)) (Some HorizonTooLong) (le-leb h 12 short)
    ∙ cond-true (tables_hold s h a b) None (Some PlanTableShort) both

-- nor is writing out, where the states are few
written_fine : (m : Model) (a b : ℕ) → Lawful m → Writable m → a ≡ 4096 → b ≡ 1212424 → (x : Result Written Refusal) → x ≡ outcome m a b → written_refusal m a b ≡ None
written_fine m a b law few codes bytes (Err q) is = absurd (omega (arith, few, (passed m law q (Err q) a b codes bytes refl is).1))
written_fine m a b law few codes bytes (Ok v) is = unrefused (written_refusal m a b) (record { states = length (codes_of m); words = word_count m }) v (sym is)

nothing_refused : (m : Model) (h a b c d : ℕ) → Lawful m → Represents m → Writable m → h ≤ 12 → a ≡ 4096 → b ≡ 1212424 → c ≡ 53248 → d ≡ 49152 → plan_refusal m h a b c d ≡ None
nothing_refused m h a b c d law book few short codes bytes worths choices =
    let span : (book_model m).span ≤ 4096 = subst (λ n. n ≤ 4096) (sym (book.copies few).states) few in
    ap (λ o. option_or o (sizes_refusal (book_model m).span h c d)) (written_fine m a b law few codes bytes (outcome m a b) refl)
    ∙ sizes_fine (book_model m).span h c d span short (omega (arith, worths)) (omega (arith, choices))

-- what the call answers whose sizes were surveyed
pub plan_told : (w : Weigh) (pile : Piling) (m : Model) → m ≡ pile.model → (h : ℕ) (t : Tables) (r : Result Plan Unplanned) → Lawful m → Represents m → Writable m → h ≤ 12 → length t.codes.now ≡ 4096 → length t.bytes.now ≡ 1212424 → length t.worths.now ≡ 53248 → length t.choices.now ≡ 49152
    → PlansAs w m h t r → IfOk r (IsPlanOf w pile h) → PlansOr w pile h r
plan_told w pile m own h t (Ok p) law book few short codes bytes worths choices answer is = is
plan_told w pile m own h t (Err (Refused r)) law book few short codes bytes worths choices answer is =
    absurd (none-some r (sym (nothing_refused m h (length t.codes.now) (length t.bytes.now) (length t.worths.now) (length t.choices.now) law book few short codes bytes worths choices) ∙ answer))
plan_told w pile m own h t (Err (Memory e)) law book few short codes bytes worths choices answer is = (subst Writable own few, short)
