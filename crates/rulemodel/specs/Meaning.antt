-- What a rule book means as a site model: the states are the masks of its switches, and a state's labels are the switches that
-- are on. An outcome clears its switches and then sets its switches; outcomes of an action that land in one state are one
-- outcome, at the place of the first of them, with their weights added.
use Rattle.std.specs.Prelude.{◌≡◌, ℕ, ◌+◌, ◌^◌, Bool, not, ◌&&◌, ◌||◌, IsTrue, IsFalse, if◌then◌else◌, List, [], ◌∷◌, map, length, pos, ◌==◌, bit_and, bit_or, bit_xor, nat_le, nat_lt, slice_index_or}
use Rattle.model.specs.declared.Outcome.{Outcome}
use Rattle.model.specs.Histories.{targets_of}
use Rattle.model.specs.Masks.{labelled}
use Rattle.model.specs.Models.{Model}
use Rattle.register.specs.Keys.{Kept}
use Rattle.rulelayout.specs.declared.Effect.{Effect}
use Rattle.rulelayout.specs.Rule.{Act, Rule, total}

-- whether the switch k is on in a mask: it is a label
abbrev pub is_on : ℕ → ℕ → Bool
is_on k mask = labelled mask k

-- where an outcome lands from s: its switches to clear go off (they are put on, then each is turned over), then those to set
-- go on
abbrev pub landing : ℕ → Effect → ℕ
landing s e = bit_or (bit_xor (bit_or s e.clear) e.clear) e.set

-- a switch is on after an outcome if it sets it, or if it was on and is not cleared
abbrev pub Lands : ℕ → Effect → ℕ → Type 0
Lands s e t = (k : ℕ) → is_on k t ≡ (is_on k e.set || (is_on k s && not (is_on k e.clear)))

abbrev pub heavier : Outcome → ℕ → Outcome
heavier o w = record { target = o.target; weight = o.weight + w }

-- one more weight on the first outcome with the target t, or else a new outcome at the end
abbrev pub added : List Outcome → ℕ → ℕ → List Outcome
added [] t w = record { target = t; weight = w } ∷ []
added (o ∷ os) t w = if t == o.target then heavier o w ∷ os else o ∷ added os t w

-- one landing after another; a recursion and no library fold, since the laws open it turn by turn from the left
abbrev pub landings_onto : ℕ → List Outcome → List Effect → List Outcome
landings_onto s os [] = os
landings_onto s os (e ∷ es) = landings_onto s (added os (landing s e) e.weight) es

-- the outcomes in the state s of an action with these effects
abbrev pub landings : ℕ → List Effect → List Outcome
landings s es = landings_onto s [] es

-- more than eight effects, or more than eight eighths, are no action's
abbrev pub outcomes_from : ℕ → List Effect → List Outcome
outcomes_from s es = if nat_le (length es) 8 && nat_le (total es) 8 then landings s es else []

-- the weight of the outcome with the target t, 0 where there is none
abbrev pub weight_of : ℕ → List Outcome → ℕ
weight_of t [] = 0
weight_of t (o ∷ os) = if t == o.target then o.weight else weight_of t os

-- the weights together of the effects that land in t
abbrev pub landed : ℕ → ℕ → List Effect → ℕ
landed s t [] = 0
landed s t (e ∷ es) = (if t == landing s e then e.weight else 0) + landed s t es

-- every landing is one outcome, in the order of first landing, with the whole weight that lands there
pub record Gathered (s : ℕ) (es : List Effect) (os : List Outcome) : Type 0 where
  pub targets : Kept (map (landing s) es) (targets_of os)
  pub weights : (t : ℕ) → weight_of t os ≡ landed s t es

-- whether the switches of `on` are on in s, and those of `off` are off
abbrev pub met_by : ℕ → ℕ → ℕ → Bool
met_by s on off = bit_and s on == on && bit_and s off == 0

-- the needs are met just where each switch that must be on is on, and each that must be off is off
pub record Meets (s on off : ℕ) (r : Bool) : Type 0 where
  pub are_on : IsTrue r → (k : ℕ) → IsTrue (is_on k on) → IsTrue (is_on k s)
  pub are_off : IsTrue r → (k : ℕ) → IsTrue (is_on k off) → IsFalse (is_on k s)
  pub enough : ((k : ℕ) → IsTrue (is_on k on) → IsTrue (is_on k s))
      → ((k : ℕ) → IsTrue (is_on k off) → IsFalse (is_on k s))
      → IsTrue r

abbrev pub met : ℕ → Act → Bool
met s a = met_by s a.on a.off

abbrev pub no_act : Act
no_act = record { on = 0; off = 0; effects = [] }

abbrev pub act_at : Rule → ℕ → Act
act_at b a = slice_index_or b.acts a no_act

abbrev pub is_switch_mask : Rule → ℕ → Bool
is_switch_mask b s = nat_lt s (2 ^ b.switches)

abbrev pub offers : Rule → ℕ → ℕ → Bool
offers b s a = is_switch_mask b s && (nat_lt a (length b.acts) && met s (act_at b a))

abbrev pub rule_model : Rule → Model
rule_model b = record {
  start = b.start;
  state = λ s. is_switch_mask b s;
  mask = λ s. if is_switch_mask b s then s else 0;
  reward = λ s. pos 0;
  site = λ s. if is_switch_mask b s then s else 0;
  offered = λ s a. offers b s a;
  outcomes = λ s a. if offers b s a then landings s (act_at b a).effects else [];
  labels = b.switches;
  actions = length b.acts;
  bound = 0;
  span = 2 ^ b.switches;
}
