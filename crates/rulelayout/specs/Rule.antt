-- What a rule book says: how many switches there are, which are on at the start, and for each action the switches that must
-- be on and off where it is offered, and its outcomes in order. A mask has the bit k for the switch k.
use Rattle.std.specs.Prelude.{ℕ, ◌^◌, Bool, false, ◌&&◌, List, [], ◌∷◌, length, ◌==◌, bit_and, nat_lt, sum_by}
use Rattle.words.specs.Tests.{all, within}
use Rattle.rulelayout.specs.declared.Effect.{Effect}

pub record Act : Type 0 where
  pub on : ℕ
  pub off : ℕ
  pub effects : List Effect

pub record Rule : Type 0 where
  pub switches : ℕ
  pub start : ℕ
  pub acts : List Act

abbrev pub total : List Effect → ℕ
total es = sum_by (λ e. e.weight) es

-- two masks of the switches that there are, and a count or a weight from 1 to 8
abbrev pub in_range : ℕ → ℕ → ℕ → ℕ → Bool
in_range switches x y n = nat_lt x (2 ^ switches) && (nat_lt y (2 ^ switches) && within 1 8 n)

-- and no switch stands in both masks
abbrev pub fits : ℕ → ℕ → ℕ → ℕ → Bool
fits switches x y n = in_range switches x y n && bit_and x y == 0

abbrev pub good_effect : ℕ → Effect → Bool
good_effect switches e = fits switches e.set e.clear e.weight

-- one to eight outcomes, whose weights total 8
abbrev pub good_act : ℕ → Act → Bool
good_act switches a =
    fits switches a.on a.off (length a.effects)
    && (all (good_effect switches) a.effects
    && total a.effects == 8)

-- action 0 is there, and has no needs
abbrev pub waits : List Act → Bool
waits [] = false
waits (a ∷ rest) = a.on == 0 && a.off == 0

abbrev pub good_head : ℕ → ℕ → ℕ → Bool
good_head switches actions start =
    within 1 10 switches && (within 1 8 actions && nat_lt start (2 ^ switches))

-- what a rule book may say
abbrev pub valid : Rule → Bool
valid b =
    good_head b.switches (length b.acts) b.start
    && (all (good_act b.switches) b.acts && waits b.acts)
