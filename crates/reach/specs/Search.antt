-- Searching a model from its start: each listed state in turn adds its unlisted targets, actions
-- rising, outcomes in order.
use Rattle.std.specs.Prelude.{ℕ, zero, suc, if◌then◌else◌, List, [], ◌∷◌, ◌++◌, length, nat_eq, nat_lt, slice_index}
use Rattle.model.specs.Histories.{targets_of}
use Rattle.model.specs.Models.{Model}
use Rattle.register.specs.Keys.{enter_all}

-- the targets of the actions below a in the state s
abbrev pub targets_below : Model → ℕ → ℕ → List ℕ
targets_below m s zero = []
targets_below m s (suc a) = targets_below m s a ++ targets_of (m.outcomes s a)

-- where a state may lead
abbrev pub leads_to : Model → ℕ → List ℕ
leads_to m s = targets_below m s m.actions

-- the list after the turn of the state listed at place p, which adds its unlisted targets
abbrev pub after_turn : Model → List ℕ → ℕ → List ℕ
after_turn m codes p =
    if nat_lt p (length codes) then enter_all nat_eq codes (leads_to m (slice_index codes p)) else codes

-- what is listed after n turns
unfoldable pub listed_after : Model → ℕ → List ℕ
listed_after m zero = m.start ∷ []
listed_after m (suc n) = after_turn m (listed_after m n) n

-- the listed codes: so many turns list all that is reachable, or more than 4,096
unfoldable pub codes_of : Model → List ℕ
codes_of m = listed_after m 4096
