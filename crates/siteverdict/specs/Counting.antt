-- What the verdict on a file says: the counts of the book that it is, or the refusal that the reading of it stops at.
-- The counts are those of its states, labels, actions and outcomes, and the largest size of a reward in it.
use Rattle.std.specs.Prelude.{◌≡◌, ℕ, ◌+◌, ◌-◌, max, List, [], ◌∷◌, length, Ok, Err, Result, sum_by}
use Rattle.refusal.specs.declared.Fault.{Fault}
use Rattle.words.specs.Format.{Verdict, got, stop}
use Rattle.sitelayout.specs.declared.Mark.{Mark}
use Rattle.sitelayout.specs.declared.Move.{Move}
use Rattle.sitelayout.specs.Site.{Site}
use Rattle.siteverdict.specs.declared.Counts.{Counts}

-- how far a reward is from 0; `raised` is the reward plus 2,000
abbrev pub size : ℕ → ℕ
size raised = (raised - 2000) + (2000 - raised)

-- the largest size of a reward
abbrev pub bound_of : List Mark → ℕ
bound_of [] = 0
bound_of (m ∷ ms) = max (size m.worth.raised) (bound_of ms)

-- how many outcomes there are in all
abbrev pub moves_in : List (List Move) → ℕ
moves_in cs = sum_by length cs

pub record Counted (c : Counts) (b : Site) : Type 0 where
  pub states : c.head.states ≡ length b.marks
  pub labels : c.head.labels ≡ b.labels
  pub actions : c.head.actions ≡ b.actions
  pub moves : c.moves ≡ moves_in b.cells
  pub bound : c.bound ≡ bound_of b.marks

-- the answer r to a file is right where the reading of it comes to v
abbrev pub Judges : Result Counts Fault → Verdict Site → Type 0
Judges (Ok c) v = (b : Site) × ((v ≡ got b) × Counted c b)
Judges (Err f) v = v ≡ stop f.refusal f.place
