-- Action 0 is offered in the first states of a table, and what filling the table up or adding an entry changes of that.
use Rattle.std.proofs.Common.{◌≡◌, ℕ, zero, suc, ◌+◌, ◌-◌, ◌*◌, ◌<◌, ◌≤◌, max, true, not, eqb, List, [], ◌∷◌, ◌++◌, length, get_or, replicate, sym, refl, ap, ◌∙◌, subst, inl, inr, arith}
use Rattle.std.proofs.lemmas.Bool.{cases_lt, cases_eq, cases_Bool, false≢true, eq-eqb, ne_eqb}
use Rattle.std.proofs.lemmas.List.{get_or_past, get_or_append_left, get_or-append_right}
use Rattle.std.proofs.lemmas.List.Folds.{sum_by-replicate}
use Rattle.std.proofs.lemmas.List.Sums.{sum_by-append}
use Rattle.words.specs.Tests.{none}
use Rattle.words.proofs.Tests.{all_below_at, all_below_from}
use Rattle.sitelayout.specs.declared.Mark.{Mark}
use Rattle.sitelayout.specs.declared.Move.{Move}
use Rattle.sitelayout.specs.Site.{waits}
use Rattle.siteverdict.specs.Counting.{size, bound_of, moves_in}

pub bound-push : (ms : List Mark) (m : Mark) → bound_of (ms ++ (m ∷ [])) ≡ max (bound_of ms) (size m.worth.raised)
bound-push [] m = omega arith
bound-push (x ∷ ms) m = omega (arith, bound-push ms m)

pub moves_filled : (cs : List (List Move)) (n : ℕ) → moves_in (cs ++ replicate n []) ≡ moves_in cs
moves_filled cs n = omega (arith, sum_by-append (length {A = Move}) cs (replicate n []), sum_by-replicate (length {A = Move}) n [])

none_there : (n i : ℕ) → get_or (replicate {A = List Move} n []) i [] ≡ []
none_there zero i = refl
none_there (suc n) zero = refl
none_there (suc n) (suc i) = none_there n i

offered_within : (cs : List (List Move)) (k : ℕ) → not (none (get_or cs k [])) ≡ true → k < length cs
offered_within cs k e =
    elim (cases_lt k (length cs)) [
      | inl h ↦ h
      | inr h ↦ absurd (false≢true (sym (ap (λ (x : List Move). not (none x)) (get_or_past cs k [] h)) ∙ e))
    ]

pub waits-append : (A n : ℕ) (cs ds : List (List Move)) → waits A n cs ≡ true → waits A n (cs ++ ds) ≡ true
waits-append A n cs ds e =
    all_below_from n (λ s. not (none (get_or (cs ++ ds) (s * A) []))) (λ s h.
    let here : not (none (get_or cs (s * A) [])) ≡ true = all_below_at n (λ s. not (none (get_or cs (s * A) []))) s e h in
    ap (λ (x : List Move). not (none x)) (get_or_append_left cs ds [] (s * A) (offered_within cs (s * A) here)) ∙ here)

-- one state more
pub waits_more : (A n : ℕ) (cs : List (List Move)) → waits A n cs ≡ true → not (none (get_or cs (n * A) [])) ≡ true → waits A (n + 1) cs ≡ true
waits_more A n cs e last =
    all_below_from (n + 1) (λ s. not (none (get_or cs (s * A) []))) (λ s h.
    elim (cases_eq s n) [
      | inl same ↦ ap (λ s. not (none (get_or cs (s * A) []))) same ∙ last
      | inr other ↦ all_below_at n (λ s. not (none (get_or cs (s * A) []))) s e (omega arith)
    ])

-- a place that is not offered stays so where the table is filled up
pub none_filled : (cs : List (List Move)) (n k : ℕ) → (k < length cs → get_or cs k [] ≡ []) → get_or (cs ++ replicate n []) k [] ≡ []
none_filled cs n k e =
    elim (cases_lt k (length cs)) [
      | inl h ↦ get_or_append_left cs (replicate n []) [] k h ∙ e h
      | inr h ↦ get_or-append_right cs (replicate n []) (length cs) k [] refl h ∙ none_there n (k - length cs)
    ]

-- the whole table waits just where all states are known to
pub waits_all : (A S w : ℕ) (cs : List (List Move)) (n : ℕ) → waits A w cs ≡ true → (w * A < length cs → get_or cs (w * A) [] ≡ []) → w ≤ S → waits A S (cs ++ replicate n []) ≡ eqb w S
waits_all A S w cs n known next le =
    elim (cases_eq w S) [
      | inl same ↦ subst (λ x. waits A x (cs ++ replicate n []) ≡ true) same (waits-append A w cs (replicate n []) known) ∙ sym (eq-eqb w S same)
      | inr other ↦
          elim (cases_Bool (waits A S (cs ++ replicate n []))) [
            | inl all ↦
                let here = all_below_at S (λ s. not (none (get_or (cs ++ replicate n []) (s * A) []))) w all (omega arith) in
                absurd (false≢true (sym (ap (λ (x : List Move). not (none x)) (none_filled cs n (w * A) next)) ∙ here))
            | inr some ↦ some ∙ sym (ne_eqb w S other)
          ]
    ]
