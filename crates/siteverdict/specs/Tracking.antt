-- How the state of the pass follows the draft of the book that is being read: what is due next, and the counts so far.
use Rattle.std.specs.Prelude.{◌≡◌, ℕ, ◌*◌, ◌<◌, ◌≤◌, IsTrue, List, [], map, length, Some, None, Ok, Err, Result, slice_index_or}
use Rattle.bounded.specs.Listed.{listed}
use Rattle.refusal.specs.declared.Refusal.{Refusal}
use Rattle.words.specs.Format.{Step, wrong, more}
use Rattle.sitelayout.specs.declared.Head.{Head}
use Rattle.sitelayout.specs.declared.Mark.{Mark}
use Rattle.sitelayout.specs.declared.Move.{Move}
use Rattle.sitelayout.specs.Site.{total, waits}
use Rattle.sitelayout.specs.Layout.{Draft, fresh, marking, listing, moving}
use Rattle.siteverdict.specs.declared.state.Marks.{Marks}
use Rattle.siteverdict.specs.declared.state.Open.{Open}
use Rattle.siteverdict.specs.declared.state.State.{State}
use Rattle.siteverdict.specs.declared.state.State.TheVariants as phase
use Rattle.siteverdict.specs.declared.state.Table.{Table}
use Rattle.siteverdict.specs.declared.Counts.{Counts}
use Rattle.siteverdict.specs.Counting.{bound_of, moves_in}

-- the states read so far: so many, and the largest size of a reward
pub record TracksMarks (h : Head) (count most : ℕ) (ms : List Mark) : Type 0 where
  pub acts : 1 ≤ h.actions
  pub read : length ms ≡ count
  pub bound : bound_of ms ≡ most

-- whole entries. `waiting`: the states below `offer` offer action 0, and the next does not where its place is filled
pub record Tabled (c : Counts) (filled offer : ℕ) (ms : List Mark)
    (cs : List (List Move)) : Type 0 where
  pub acts : 1 ≤ c.head.actions
  pub read : length ms ≡ c.head.states
  pub bound : bound_of ms ≡ c.bound
  pub cells : length cs ≡ filled
  pub moves : moves_in cs ≡ c.moves
  pub waiting : IsTrue (waits c.head.actions offer cs)
  pub next : offer * c.head.actions < length cs → slice_index_or cs (offer * c.head.actions) [] ≡ []
  pub within : offer ≤ c.head.states

-- an open entry, whose place is in the table
pub record Opened (o : Open) (ms : List Mark) (cs : List (List Move))
    (mv : List Move) : Type 0 where
  pub table : Tabled o.table.counts o.table.cells o.table.waits ms cs
  pub room : o.table.cells < o.table.counts.head.states * o.table.counts.head.actions
  pub weighed : total mv ≡ o.total
  pub targets : map (λ (m : Move). m.target) mv ≡ listed o.targets

-- by what is due next

abbrev pub AtMask : Marks → Draft → Type 0
AtMask m d = (ms : List Mark) × ((d ≡ marking m.head ms None) × TracksMarks m.head m.read m.bound ms)

abbrev pub AtReward : Marks → Draft → Type 0
AtReward m d =
    (ms : List Mark)
    × ((k : ℕ) × ((d ≡ marking m.head ms (Some k)) × TracksMarks m.head m.read m.bound ms))

abbrev pub AtEntry : Table → Draft → Type 0
AtEntry t d =
    (ms : List Mark)
    × ((cs : List (List Move)) × ((d ≡ listing t.counts.head ms cs) × Tabled t.counts t.cells t.waits ms cs))

abbrev pub AtMove : Open → Draft → Type 0
AtMove o d =
    (ms : List Mark)
    × ((cs : List (List Move)) × ((mv : List Move) × ((d ≡ moving o.table.counts.head ms cs mv o.due) × Opened o ms cs mv)))

abbrev pub Tracks : State → Draft → Type 0
Tracks phase.Fresh d = d ≡ fresh
Tracks (phase.Mask m) d = AtMask m d
Tracks (phase.Reward m) d = AtReward m d
Tracks (phase.Entry t) d = AtEntry t d
Tracks (phase.Move o) d = AtMove o d

-- the answer to a word that is no end word and does st to the draft
abbrev pub Leads : {X : Type 0} → (X → Draft → Type 0) → Step Draft → Result X Refusal → Type 0
Leads At (wrong r) answer = answer ≡ Err r
Leads At (more d) (Ok x) = At x d
Leads At st answer = ⊥
