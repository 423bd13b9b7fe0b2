-- What a site book says: how many labels and actions there are, what it marks each state with, and for each state and action
-- the outcomes in order, none where the action is not offered. The start is state 0.
use Rattle.std.specs.Prelude.{ℕ, ◌*◌, ◌^◌, Bool, true, false, not, ◌&&◌, ◌||◌, List, [], ◌∷◌, length, ◌==◌, nat_le, nat_lt, slice_index_or, sum_by}
use Rattle.words.specs.Tests.{all, all_below, within, none}
use Rattle.sitelayout.specs.declared.Mark.{Mark}
use Rattle.sitelayout.specs.declared.Move.{Move}

pub record Site : Type 0 where
  pub labels : ℕ
  pub actions : ℕ
  pub marks : List Mark
  pub cells : List (List Move)  -- the outcomes of action a in state s stand at s * actions + a

-- the target t comes among the outcomes
abbrev pub taken : ℕ → List Move → Bool
taken t [] = false
taken t (m ∷ ms) = t == m.target || taken t ms

-- no target comes twice
abbrev pub apart : List Move → Bool
apart [] = true
apart (m ∷ ms) = not (taken m.target ms) && apart ms

abbrev pub total : List Move → ℕ
total ms = sum_by (λ m. m.weight) ms

abbrev pub good_mark : ℕ → Mark → Bool
good_mark labels m =
    nat_lt m.mask (2 ^ labels) && (nat_le m.worth.raised 4000 && nat_lt m.worth.origin 4096)

abbrev pub good_move : ℕ → Move → Bool
good_move states m = nat_lt m.target states && within 1 8 m.weight

-- the outcomes of an offered action: one to eight, with different targets, and weights that total 8
abbrev pub good_cell : ℕ → List Move → Bool
good_cell states ms =
    none ms || (nat_le (length ms) 8 && (all (good_move states) ms && (apart ms && total ms == 8)))

-- action 0 is offered in every state below n
abbrev pub waits : ℕ → ℕ → List (List Move) → Bool
waits actions n cells = all_below n (λ s. not (none (slice_index_or cells (s * actions) [])))

-- what a site book may say
abbrev pub valid : Site → Bool
valid b =
    within 1 4096 (length b.marks)
    && (nat_le b.labels 24
    && (within 1 8 b.actions
    && (all (good_mark b.labels) b.marks
    && (length b.cells == length b.marks * b.actions
    && (all (good_cell (length b.marks)) b.cells
    && waits b.actions (length b.marks) b.cells)))))
