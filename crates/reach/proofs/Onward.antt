-- Where a history leads on: the targets of a reached state are reached, and every reached state is a state of the model.
use Rattle.std.proofs.Common.{◌≡◌, ℕ, zero, suc, ◌<◌, ◌≤◌, true, List, [], ◌∷◌, ◌++◌, length, get_or, sym, refl, ap, ◌∙◌, subst, ⊎_elim, arith}
use Rattle.std.specs.List.{All, Contains}
use Rattle.std.proofs.lemmas.List.Elements.{All-append, All-contains_itself, All-nil, All-weaker, Contains-append_left, Contains-append_right, Contains-get_or}
use Rattle.std.proofs.lemmas.List.{get_or-map, length-map}
use Rattle.std.proofs.lemmas.Bool.{cases_Bool, cases_lt}
use Rattle.model.specs.declared.Outcome.{Outcome}
use Rattle.model.specs.Histories.{begun, onward, by_itself, final, targets_of}
use Rattle.model.specs.Models.{Model, Lawful}
use Rattle.model.proofs.Paths.{final-push, history_state}
use Rattle.reach.specs.Reached.{Reached, coming_up}
use Rattle.reach.specs.Search.{targets_below, leads_to}

pub reached_start : (m : Model) → Reached m m.start
reached_start m = (m.start ∷ [], (begun, refl))

-- an action with a target is offered
has_offered : (m : Model) → Lawful m → (s a t : ℕ) → Contains (targets_of (m.outcomes s a)) t → m.offered s a ≡ true
has_offered m law s a t h =
    ⊎_elim (λ e. e)
    (λ f. absurd (omega (arith, h.1, ap (λ os. length (targets_of os)) (law.moves.silent s a f))))
    (cases_Bool (m.offered s a))

-- a target of a reached state is reached
pub reached_on : (m : Model) → Lawful m → (s a t : ℕ) → Reached m s → Contains (targets_of (m.outcomes s a)) t → Reached m t
reached_on m law s a t (p, (hist, e)) h =
    let there : Contains (targets_of (m.outcomes (final p) a)) t = subst (λ c. Contains (targets_of (m.outcomes c a)) t) (sym e) h in
    (p ++ (t ∷ []), (onward a t hist (has_offered m law (final p) a t there) there, final-push p t))

reached_below : (m : Model) → Lawful m → (s : ℕ) → Reached m s → (n : ℕ) → All (Reached m) (targets_below m s n)
reached_below m law s r zero = All-nil (Reached m)
reached_below m law s r (suc n) =
    All-append (Reached m) (targets_below m s n) (targets_of (m.outcomes s n)) (reached_below m law s r n)
    (All-weaker (Contains (targets_of (m.outcomes s n))) (Reached m) (λ t h. reached_on m law s n t r h) (targets_of (m.outcomes s n))
    (All-contains_itself (targets_of (m.outcomes s n))))

-- all that a reached state leads to is reached
pub reached_leads : (m : Model) → Lawful m → (s : ℕ) → Reached m s → All (Reached m) (leads_to m s)
reached_leads m law s r = reached_below m law s r m.actions

-- a target of an action below n is among the targets of those actions
has_below : (m : Model) (s a t n : ℕ) → a < n → Contains (targets_of (m.outcomes s a)) t → Contains (targets_below m s n) t
has_below m s a t zero l h = absurd (omega arith)
has_below m s a t (suc n) l h =
    ⊎_elim
    (λ (less : a < n). Contains-append_left (targets_below m s n) (targets_of (m.outcomes s n)) t (has_below m s a t n less h))
    (λ (more : n ≤ a).
    let e : a ≡ n = omega arith in
    Contains-append_right (targets_below m s n) (targets_of (m.outcomes s n)) t (subst (λ b. Contains (targets_of (m.outcomes s b)) t) e h))
    (cases_lt a n)

-- a target of an offered action is among what the state leads to
pub has_leads : (m : Model) → Lawful m → (s a t : ℕ) → m.offered s a ≡ true → Contains (targets_of (m.outcomes s a)) t → Contains (leads_to m s) t
has_leads m law s a t off h = has_below m s a t m.actions (law.moves.offers s a off).1 h

-- what a listed state leads to comes up
pub has_coming : (m : Model) (cs : List ℕ) (c t : ℕ) → Contains cs c → Contains (leads_to m c) t → Contains (coming_up m cs) t
has_coming m [] c t (k, l, at) h = absurd (omega arith)
has_coming m (x ∷ cs) c t (zero, l, at) h =
    Contains-append_left (leads_to m x) (coming_up m cs) t (subst (λ s. Contains (leads_to m s) t) (sym at) h)
has_coming m (x ∷ cs) c t (suc k, l, at) h =
    Contains-append_right (leads_to m x) (coming_up m cs) t (has_coming m cs c t (k, omega arith, at) h)

-- the target at a place of the outcomes is one of their targets
pub has_target : (os : List Outcome) (j : ℕ) (d : Outcome) → j < length os → Contains (targets_of os) (get_or os j d).target
has_target os j d l =
    let inside : j < length (targets_of os) = omega (arith, length-map os (λ (o : Outcome). o.target)) in
    subst (Contains (targets_of os)) (get_or-map (λ (o : Outcome). o.target) os j d 0 l) (Contains-get_or (targets_of os) j 0 inside)

-- a reached code is a state
pub reached_state : (m : Model) → Lawful m → (c : ℕ) → Reached m c → m.state c ≡ true
reached_state m law c (p, (hist, e)) = ap m.state (sym e) ∙ history_state m law (by_itself m).offered p hist
