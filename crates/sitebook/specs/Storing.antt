-- What storing a book does at each word: what the tables hold so far, and what a word of each kind puts into them.
-- The words are those of a file that is known to be a book, so that a word's kind says all that is needed.
use Rattle.std.specs.Prelude.{ℕ, ◌+◌, ◌-◌, ◌*◌, List, [], ◌∷◌, ◌++◌, length, min, replicate, take, Ok, Result, vec_items, vec_capacity}
use Rattle.refusal.specs.declared.Refusal.{Refusal}
use Rattle.sitelayout.specs.declared.Mark.{Mark}
use Rattle.sitelayout.specs.declared.Move.{Move}
use Rattle.sitelayout.specs.declared.kind.Kind.{Kind}
use Rattle.sitelayout.specs.declared.kind.Kind.TheVariants as kinds
use Rattle.sitelayout.specs.Kinds.{kind_of}
use Rattle.sitelayout.specs.OneWord.{head_in, mask_in, worth_in, entry_in, move_in}
use Rattle.sitelayout.specs.Site.{Site}
use Rattle.siteverdict.specs.declared.Counts.{Counts}
use Rattle.sitebook.specs.declared.store.Store.{Store}
use Rattle.sitebook.specs.Tables.{book_in}

-- the tables so far, how many states, cells and outcomes there is room for, and a mask whose reward is due
pub record Held : Type 0 where
  pub labels : ℕ
  pub actions : ℕ
  pub marks : List Mark
  pub starts : List ℕ
  pub moves : List Move
  pub states : ℕ
  pub cells : ℕ
  pub outcomes : ℕ
  pub mask : ℕ

abbrev pub held_by : Store → Held
held_by s = record {
  labels = s.tables.labels;
  actions = s.tables.actions;
  marks = vec_items s.tables.marks;
  starts = vec_items s.tables.starts;
  moves = vec_items s.tables.moves;
  states = vec_capacity s.tables.marks;
  cells = vec_capacity s.tables.starts;
  outcomes = vec_capacity s.tables.moves;
  mask = s.mask;
}

-- no state, no cell and no outcome, and room for those that were counted
abbrev pub nothing : Counts → Held
nothing c = record {
  labels = 0;
  actions = 0;
  marks = [];
  starts = [];
  moves = [];
  states = c.head.states;
  cells = c.head.states * c.head.actions;
  outcomes = c.moves;
  mask = 0;
}

-- the head
abbrev pub with_head : Held → ℕ → Held
with_head h w = record h { labels = (head_in w).labels; actions = (head_in w).actions }

-- a mask, whose reward is due
abbrev pub with_mask : Held → ℕ → Held
with_mask h w = record h { mask = mask_in w }

-- a state more, where there is room
abbrev pub with_mark : Held → ℕ → Held
with_mark h w =
    let mark : Mark = record { mask = h.mask; worth = worth_in w } in
    record h { marks = take h.states (h.marks ++ (mark ∷ [])) }

-- the list made n long, or as long as there is room for, with x at the places that it lacks
abbrev pub filled : ℕ → ℕ → ℕ → List ℕ → List ℕ
filled room n x xs = xs ++ replicate (min n room - length xs) x

-- an entry: its cell, and each before it that has not, begins at the end of the row
abbrev pub with_entry : Held → ℕ → Held
with_entry h w =
    let place = (entry_in w).state * h.actions + (entry_in w).action in
    record h { starts = filled h.cells (place + 1) (length h.moves) h.starts }

-- an outcome more in the row, where there is room
abbrev pub with_move : Held → ℕ → Held
with_move h w = record h { moves = take h.outcomes (h.moves ++ (move_in w ∷ [])) }

abbrev pub put_as : Result Kind Refusal → Held → ℕ → Held
put_as (Ok kinds.Head) h w = with_head h w
put_as (Ok kinds.Mask) h w = with_mask h w
put_as (Ok kinds.Reward) h w = with_mark h w
put_as (Ok kinds.Entry) h w = with_entry h w
put_as (Ok kinds.Move) h w = with_move h w
put_as k h w = h

abbrev pub put_of : Held → ℕ → Held
put_of h w = put_as (kind_of w) h w

-- the book that the tables hold
abbrev pub book_of : Held → Site
book_of h = book_in h.labels h.actions h.marks h.starts h.moves
