-- One turn of gathering.
use Rattle.std.proofs.Common.{◌≡◌, ℕ, ◌+◌, ◌<◌, ◌≤◌, List, [], ◌∷◌, ◌++◌, length, get_or, take, refl, ap, ◌∙◌, arith}
use Rattle.std.proofs.lemmas.List.{length-take-le, take_more}
use Rattle.std.proofs.lemmas.List.Sums.{sum_by_push, sum_by-take-le}
use Rattle.model.specs.Models.{total as weights}
use Rattle.model.specs.declared.Outcome.{Outcome}
use Rattle.rulelayout.specs.declared.Effect.{Effect}
use Rattle.rulelayout.specs.Rule.{total}
use Rattle.rulemodel.specs.Meaning.{landing, added, landings_onto, landings}
use Rattle.rulemodel.proofs.Gathering.{total_onto, length-onto}

onto-push : (s : ℕ) (os : List Outcome) (es : List Effect) (e : Effect) → landings_onto s os (es ++ (e ∷ [])) ≡ added (landings_onto s os es) (landing s e) e.weight
onto-push s os [] e = refl
onto-push s os (x ∷ es) e = onto-push s (added os (landing s x) x.weight) es e

module _ (s : ℕ) (es : List Effect) (i : ℕ) (d : Effect) (here : i < length es) where
  -- one effect more
  pub landings_more : landings s (take (i + 1) es) ≡ added (landings s (take i es)) (landing s (get_or es i d)) (get_or es i d).weight
  landings_more = ap (landings s) (take_more es i d here) ∙ onto-push s [] (take i es) (get_or es i d)

  pub room_left : length (landings s (take i es)) ≤ i
  room_left = omega (arith, length-onto s [] (take i es), length-take-le i es (omega arith))

  -- the weights before it and its own are no more than all together
  pub light_yet : weights (landings s (take i es)) + (get_or es i d).weight ≤ total es
  light_yet =
      omega (arith, total_onto s [] (take i es), ap total (take_more es i d here), sum_by_push (λ (e : Effect). e.weight) (take i es) (get_or es i d), sum_by-take-le (λ (e : Effect). e.weight) es (i + 1))
