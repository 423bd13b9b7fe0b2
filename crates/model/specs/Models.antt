-- What a site model means: a Markov decision process with labels, its chances counted in eighths.
-- A model has an answer for every number; one that is no state has mask, reward and site 0 and offers nothing.
-- `Lawful` has the laws of every site model, in parts, each over the answers that it names; `Ground` has those of a ground model and
-- `NumberedBy` those of a numbered one.
use Rattle.std.specs.Prelude.{◌≡◌, ℕ, ◌^◌, ◌<◌, ◌≤◌, Bool, IsTrue, IsFalse, List, [], length, ℤ, pos, Option, nat_lt, slice_index_or, sum_by, unsigned_abs}
use Rattle.std.specs.Option.{option_map}
use Rattle.std.specs.List.{slice_get}
use Rattle.model.specs.declared.Outcome.{Outcome}
use Rattle.model.specs.declared.Sizes.{Sizes}

-- `site` is the state of the ground model that a layered state stands over
pub record Model : Type 0 where
  pub start : ℕ
  pub state : ℕ → Bool
  pub mask : ℕ → ℕ
  pub reward : ℕ → ℤ
  pub site : ℕ → ℕ
  -- a state, then an action
  pub offered : ℕ → ℕ → Bool
  pub outcomes : ℕ → ℕ → List Outcome
  pub labels : ℕ
  pub actions : ℕ
  pub bound : ℕ
  pub span : ℕ

-- how many labels and actions there are, how large a reward may be, and what the numbers of states are below
abbrev pub sizes_of : Model → Sizes
sizes_of m = record { labels = m.labels; actions = m.actions; bound = m.bound; span = m.span }

-- the weights together
abbrev pub total : List Outcome → ℕ
total os = sum_by (λ o. o.weight) os

-- the target of outcome j of an action in a state, none where there is no such outcome
abbrev pub target_at : Model → ℕ → ℕ → ℕ → Option ℕ
target_at m s a j = option_map (λ o. o.target) (slice_get (m.outcomes s a) j)

-- the target of outcome j; that of d where there is none
abbrev pub target_in : List Outcome → ℕ → Outcome → ℕ
target_in os j d = (slice_index_or os j d).target

pub record LawfulStates (start : ℕ) (state : ℕ → Bool) (span : ℕ) : Type 0 where
  pub starts : IsTrue (state start)
  pub within : (s : ℕ) → IsTrue (state s) → s < span

pub record LawfulMoves (state : ℕ → Bool) (offered : ℕ → ℕ → Bool) (outcomes : ℕ → ℕ → List Outcome)
    (actions : ℕ) : Type 0 where
  -- actions
  pub acts : (1 ≤ actions) × (actions ≤ 8)
  pub offers : (s a : ℕ) → IsTrue (offered s a) → IsTrue (state s) × (a < actions)
  pub waits : (s : ℕ) → IsTrue (state s) → IsTrue (offered s 0)
  -- outcomes
  pub some : (s a : ℕ) → IsTrue (offered s a) → 1 ≤ length (outcomes s a)
  pub few : (s a : ℕ) → length (outcomes s a) ≤ 8
  pub targets : (s a j : ℕ) (d : Outcome) → j < length (outcomes s a)
      → IsTrue (state (target_in (outcomes s a) j d))
  pub apart : (s a j k : ℕ) (d : Outcome) → j < length (outcomes s a) → k < length (outcomes s a)
      → target_in (outcomes s a) j d ≡ target_in (outcomes s a) k d → j ≡ k
  pub weighed : (s a j : ℕ) (d : Outcome) → j < length (outcomes s a)
      → 1 ≤ (slice_index_or (outcomes s a) j d).weight
  pub whole : (s a : ℕ) → IsTrue (offered s a) → total (outcomes s a) ≡ 8
  pub silent : (s a : ℕ) → IsFalse (offered s a) → outcomes s a ≡ []

-- labels and rewards
pub record LawfulShows (state : ℕ → Bool) (mask : ℕ → ℕ) (reward : ℕ → ℤ)
    (labels bound : ℕ) : Type 0 where
  pub labelled : (s : ℕ) → mask s < 2 ^ labels
  pub narrow : labels ≤ 24
  pub bounded : (s : ℕ) → unsigned_abs (reward s) ≤ bound
  pub modest : bound ≤ 2000
  pub no_mask : (s : ℕ) → IsFalse (state s) → mask s ≡ 0
  pub no_reward : (s : ℕ) → IsFalse (state s) → reward s ≡ pos 0

pub record LawfulGrounds (state : ℕ → Bool) (site : ℕ → ℕ) : Type 0 where
  pub grounded : (s : ℕ) → site s < 4096
  pub no_ground : (s : ℕ) → IsFalse (state s) → site s ≡ 0

pub record Lawful (m : Model) : Type 0 where
  pub states : LawfulStates m.start m.state m.span
  pub moves : LawfulMoves m.state m.offered m.outcomes m.actions
  pub shows : LawfulShows m.state m.mask m.reward m.labels m.bound
  pub grounds : LawfulGrounds m.state m.site

-- each state is its own ground
pub record Ground (m : Model) : Type 0 where
  pub own : (s : ℕ) → IsTrue (m.state s) → m.site s ≡ s
  pub small : m.span ≤ 4096

-- the states are exactly the numbers below the span
pub record NumberedBy (m : Model) : Type 0 where
  pub below : (s : ℕ) → m.state s ≡ nat_lt s m.span
  pub small : m.span ≤ 4096
