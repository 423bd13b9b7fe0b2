-- The site book that is written out of listed states: their masks, rewards and moves, with the
-- ground as origin. A state of the book is the place of a listed state.
use Rattle.std.specs.Prelude.{ℕ, zero, suc, ◌+◌, ◌*◌, List, [], ◌∷◌, ◌++◌, length, map, pos, ◌+ℤ◌, nat_eq, unsigned_abs}
use Rattle.model.specs.declared.Outcome.{Outcome}
use Rattle.model.specs.Models.{Model}
use Rattle.register.specs.Keys.{place_of}
use Rattle.sitelayout.specs.declared.Mark.{Mark}
use Rattle.sitelayout.specs.declared.Move.{Move}
use Rattle.sitelayout.specs.Layout.{cell_word, cell_words}
use Rattle.sitelayout.specs.OneWord.{word_of_head}
use Rattle.sitelayout.specs.Site.{Site}

-- what is written of a state; the reward is raised by 2,000
abbrev pub mark_of : Model → ℕ → Mark
mark_of m c = record {
  mask = m.mask c;
  worth = record { raised = unsigned_abs (m.reward c +ℤ pos 2000); origin = m.site c };
}

-- an outcome leads to the place of its target
abbrev pub move_to : List ℕ → Outcome → Move
move_to codes o = record { target = place_of nat_eq o.target codes; weight = o.weight }

-- the outcomes of an action in a state
abbrev pub cell_of : Model → List ℕ → ℕ → ℕ → List Move
cell_of m codes c a = map (move_to codes) (m.outcomes c a)

-- those of the actions below a
abbrev pub cells_below : Model → List ℕ → ℕ → ℕ → List (List Move)
cells_below m codes c zero = []
cells_below m codes c (suc a) = cells_below m codes c a ++ (cell_of m codes c a ∷ [])

-- the cells of some of the listed states, one state after another
abbrev pub cells_of : Model → List ℕ → List ℕ → List (List Move)
cells_of m codes [] = []
cells_of m codes (c ∷ cs) = cells_below m codes c m.actions ++ cells_of m codes cs

abbrev pub book_of : Model → List ℕ → Site
book_of m codes = record {
  labels = m.labels;
  actions = m.actions;
  marks = map (mark_of m) codes;
  cells = cells_of m codes codes;
}

-- its words: the head
abbrev pub head_words : Model → List ℕ → List ℕ
head_words m codes = word_of_head (length codes) m.labels m.actions ∷ []

-- one action in the state c at a place, and all actions in it
abbrev pub action_words : Model → List ℕ → ℕ → ℕ → ℕ → List ℕ
action_words m codes place c a = cell_word m.actions (place * m.actions + a) (cell_of m codes c a)

abbrev pub state_words : Model → List ℕ → ℕ → ℕ → List ℕ
state_words m codes place c =
    cell_words m.actions (place * m.actions) (cells_below m codes c m.actions)

-- all actions in all listed states
abbrev pub table_words : Model → List ℕ → List ℕ
table_words m codes = cell_words m.actions 0 (cells_of m codes codes)
