-- What code over a site model leans on, from the model's laws: how large a mask is, that targets are states, and a weight within its total.
use Rattle.std.proofs.Common.{◌≡◌, ℕ, ◌+◌, ◌^◌, ◌<◌, ◌≤◌, true, List, length, get_or, take, ap, lt_of_lt_of_le, sym, ◌∙◌, arith, pow_mono}
use Rattle.std.specs.List.{Contains}
use Rattle.std.proofs.lemmas.List.{length-map, get_or-map, take_more}
use Rattle.std.proofs.lemmas.List.Sums.{sum_by_push, sum_by-take-le}
use Rattle.model.specs.declared.Outcome.{Outcome}
use Rattle.model.specs.Histories.{targets_of}
use Rattle.model.specs.Models.{Model, Lawful, total}

-- a mask has 24 bits at most
pub mask_below : (m : Model) → Lawful m → (s : ℕ) → m.mask s < 2 ^ 24
mask_below m law s = lt_of_lt_of_le (law.shows.labelled s) (pow_mono law.shows.narrow)

-- every target is a state
pub target_state : (m : Model) → Lawful m → (s a t : ℕ) → Contains (targets_of (m.outcomes s a)) t → m.state t ≡ true
target_state m law s a t (j, l, at) =
    let d : Outcome = record { target = 0; weight = 0 } in
    let inside : j < length (m.outcomes s a) = omega (arith, length-map (m.outcomes s a) (λ (o : Outcome). o.target)) in
    ap m.state (sym at ∙ get_or-map (λ (o : Outcome). o.target) (m.outcomes s a) j d t inside) ∙ law.moves.targets s a j d inside

-- no weight passes the total
pub weight_at : (os : List Outcome) (j : ℕ) (d : Outcome) → j < length os → (get_or os j d).weight ≤ total os
weight_at os j d h =
    omega (arith, ap total (take_more os j d h), sum_by_push (λ (o : Outcome). o.weight) (take j os) (get_or os j d), sum_by-take-le (λ (o : Outcome). o.weight) os (j + 1))
