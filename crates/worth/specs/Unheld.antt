-- Under mean and under worst no worth is ever held back: every worth is what the rule gives with nothing held.
use Rattle.std.specs.Prelude.{◌≡◌, ℕ, ◌≤◌, IsTrue}
use Rattle.model.specs.Models.{Model, Lawful}
use Rattle.weighing.specs.Discounts.{discount_of}
use Rattle.weighmodel.specs.Weighings.{Weigh, mean, worst, free_mean, free_worst}
use Rattle.worth.specs.Worths.{worth_by, worth_of}

abbrev pub NeverHeld : Weigh → Weigh → Type 0
NeverHeld w free =
    (m : Model) → Lawful m → (horizon k s : ℕ) → horizon ≤ 12 → k ≤ horizon → IsTrue (m.state s)
    → worth_of w discount_of m horizon k s ≡ worth_by (λ x. x) free discount_of m horizon k s

pub record NothingHeldBack : Type 0 where
  pub of_mean : NeverHeld mean free_mean
  pub of_worst : NeverHeld worst free_worst
