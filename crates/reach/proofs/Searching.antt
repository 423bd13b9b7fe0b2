-- A search lists exactly the reached states where they are few enough, and else shows that there are more.
use Rattle.std.proofs.Common.{◌≡◌, ℕ, zero, suc, ◌<◌, ◌≤◌, Bool, true, eqb, List, [], ◌∷◌, length, get_or, sym, refl, ap, subst, ⊎_elim, arith}
use Rattle.std.specs.List.{All, Contains}
use Rattle.std.proofs.lemmas.List.Elements.{All-cons, All-contains, All-get_or, All-head, All-nil, All-push, All-tail, Contains-append_right}
use Rattle.std.proofs.lemmas.Bool.{cases_lt}
use Rattle.model.specs.declared.Outcome.{Outcome}
use Rattle.model.specs.Histories.{Path, begun, onward, final}
use Rattle.model.specs.Models.{Model, Lawful}
use Rattle.model.proofs.Paths.{final-push}
use Rattle.register.specs.Keys.{Distinct, Kept, enter, enter_all}
use Rattle.register.proofs.Identity.{kept_has}
use Rattle.register.proofs.Keys.{enter_both}
use Rattle.reach.specs.Reached.{Reached, coming_up, ListsReached, MoreThan}
use Rattle.reach.specs.Search.{leads_to, listed_after, codes_of}
use Rattle.reach.proofs.Onward.{has_coming, has_leads, has_target, reached_leads, reached_on, reached_start, reached_state}
use Rattle.reach.proofs.Turns.{codes_are, listed_closed, listed_kept, listed_next, listed_same, listed_start}

-- what holds of the listed keys and of those that come holds of all
all_entered : {K : Type 0} (eq : K → K → Bool) (P : K → Type 0) (held ks : List K) → All P held → All P ks → All P (enter_all eq held ks)
all_entered eq P held [] a b = a
all_entered eq P held (k ∷ ks) a b =
    all_entered eq P (enter eq k held) ks (enter_both eq k held (All P) (λ _. a) (λ _. All-push P held k a (All-head P k ks b))) (All-tail P k ks b)

-- each listed code is reached
all_reached : (m : Model) → Lawful m → (n : ℕ) → All (Reached m) (listed_after m n)
all_reached m law zero = subst (All (Reached m)) (sym (listed_start m)) (All-cons (Reached m) m.start [] (reached_start m) (All-nil (Reached m)))
all_reached m law (suc n) =
    let before : All (Reached m) (listed_after m n) = all_reached m law n in
    ⊎_elim
    (λ (l : n < length (listed_after m n)).
    subst (All (Reached m)) (sym (listed_next m n l))
    (all_entered eqb (Reached m) (listed_after m n) (leads_to m (get_or (listed_after m n) n 0)) before
    (reached_leads m law (get_or (listed_after m n) n 0) (All-get_or (Reached m) (listed_after m n) n 0 l before))))
    (λ (l : length (listed_after m n) ≤ n). subst (All (Reached m)) (sym (listed_same m n l)) before)
    (cases_lt n (length (listed_after m n)))

pub listed_reached : (m : Model) → Lawful m → (n c : ℕ) → Contains (listed_after m n) c → Reached m c
listed_reached m law n c h = All-contains (Reached m) (listed_after m n) c (all_reached m law n) h

-- no code is listed twice
pub listed_distinct : (m : Model) (n : ℕ) → Distinct (listed_after m n)
listed_distinct m n = (listed_kept m n).once

-- a list that has the start and what its states lead to has all that a history ends in
closed_has : (m : Model) → Lawful m → (codes : List ℕ) → Kept (m.start ∷ coming_up m codes) codes → (p : List ℕ) → Path m p → Contains codes (final p)
closed_has m law codes kept p begun = kept_has (m.start ∷ coming_up m codes) codes kept m.start (0, omega arith, refl)
closed_has m law codes kept p (onward {h = before} a t hist off has) =
    let leads : Contains (leads_to m (final before)) t = has_leads m law (final before) a t off has in
    let up : Contains (coming_up m codes) t = has_coming m codes (final before) t (closed_has m law codes kept before hist) leads in
    subst (Contains codes) (sym (final-push before t)) (kept_has (m.start ∷ coming_up m codes) codes kept t (Contains-append_right (m.start ∷ []) (coming_up m codes) t up))

-- a list whose states have all had their turn is the list of the reached states
pub turned_lists : (m : Model) → Lawful m → (n : ℕ) → length (listed_after m n) ≤ n → ListsReached m (listed_after m n)
turned_lists m law n l =
    let kept = listed_closed m n l in
    record {
      once = kept.once;
      only = listed_reached m law n;
      every = λ c r. subst (Contains (listed_after m n)) r.1.1 (closed_has m law (listed_after m n) kept r.0 r.1.0);
      order = kept;
    }

pub search_lists : (m : Model) → Lawful m → length (codes_of m) ≤ 4096 → ListsReached m (codes_of m)
search_lists m law l =
    subst (ListsReached m) (sym (codes_are m)) (turned_lists m law 4096 (omega (arith, ap length (codes_are m))))

-- a list of more than n reached states, at any turn
pub listed_exceeds : (m : Model) → Lawful m → (k n : ℕ) → n < length (listed_after m k) → MoreThan m n
listed_exceeds m law k n l = record { codes = listed_after m k; once = listed_distinct m k; many = l; only = listed_reached m law k }

pub search_exceeds : (m : Model) → Lawful m → (n : ℕ) → n < length (codes_of m) → MoreThan m n
search_exceeds m law n l = listed_exceeds m law 4096 n (omega (arith, ap length (codes_are m)))

-- what a list of the reached states says of its codes

pub lists_states : (m : Model) → Lawful m → (codes : List ℕ) → ListsReached m codes → (c : ℕ) → Contains codes c → m.state c ≡ true
lists_states m law codes lists c h = reached_state m law c (lists.only c h)

pub lists_targets : (m : Model) → Lawful m → (codes : List ℕ) → ListsReached m codes → (c a j : ℕ) (d : Outcome) → Contains codes c → j < length (m.outcomes c a) → Contains codes (get_or (m.outcomes c a) j d).target
lists_targets m law codes lists c a j d h l =
    lists.every (get_or (m.outcomes c a) j d).target
    (reached_on m law c a (get_or (m.outcomes c a) j d).target (lists.only c h) (has_target (m.outcomes c a) j d l))
