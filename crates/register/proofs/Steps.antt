-- One key more keeps what the register holds to what came: the key is there, or it is new.
use Rattle.std.proofs.Common.{◌≡◌, ℕ, ◌+◌, ◌<◌, ◌≤◌, Bool, List, [], ◌∷◌, ◌++◌, length, get_or, take, sym, ◌∙◌, subst, ⊎_elim, arith}
use Rattle.std.specs.List.{Contains}
use Rattle.std.proofs.lemmas.List.Elements.{Contains-get_or, Contains-append_left, Contains-push, Contains-push_cases}
use Rattle.std.proofs.lemmas.List.{append_assoc, append-nil, length_push, get_or_append_left, get_or_push, get_or-take, length-take, take_all, take-append-le}
use Rattle.std.proofs.lemmas.Bool.{cases_lt}
use Rattle.std.specs.Cmp.{IsEquivalence}
use Rattle.register.specs.Keys.{Equal, KeptBy, enter, enter_all}
use Rattle.register.proofs.Keys.{placed_has, placed_new, new_apart, enter_both}
use Rattle.register.proofs.Sameness.{Sameness, equal_sameness}

-- a key that came at all, and before q where q is among what came, came before q with one key more
came_before : {K : Type 0} (came : List K) (k y : K) (q : ℕ) → Contains came y → (q < length came → Contains (take q came) y) → Contains (take q (came ++ (k ∷ []))) y
came_before came k y q had before =
    ⊎_elim
    (λ (in' : q < length came). subst (λ cs. Contains cs y) (sym (take-append-le q came (k ∷ []) (omega arith))) (before in'))
    (λ (past : length came ≤ q). (
      had.0,
      omega (arith, had.1, length-take q (came ++ (k ∷ [])), length_push came k),
      get_or-take q (came ++ (k ∷ [])) had.0 y (omega (arith, had.1)) ∙ get_or_append_left came (k ∷ []) y had.0 had.1 ∙ had.2,
    ))
    (cases_lt q (length came))

module _ {K : Type 0} (Same : K → K → Type 0) (is : Sameness Same) where
  -- one more comes that is the same as one that is there,
  pub kept_there : (k : K) (came held : List K) → KeptBy Same came held → (y : K) × Contains held y × Same k y → KeptBy Same (came ++ (k ∷ [])) held
  kept_there k came held kept there =
      let all-came : (j : ℕ) (d : K) → j < length held → Contains came (get_or held j d) = λ j d l. kept.only (get_or held j d) (Contains-get_or held j d l) in
      record {
        once = kept.once;
        only = λ x h. Contains-append_left came (k ∷ []) x (kept.only x h);
        every =
            λ x h.
            ⊎_elim (kept.every x)
            (λ e. subst (λ z. (y : K) × Contains held y × Same z y) e there)
            (Contains-push_cases came k x h);
        first =
            λ j q d l in' e.
            came_before came k (get_or held j d) (q + 1) (all-came j d l)
            (λ q-in. kept.first j q d l (omega arith) (subst (λ x. Same x (get_or held j d)) (get_or_append_left came (k ∷ []) d q (omega arith)) e));
        order =
            λ i j q d l m in' e.
            came_before came k (get_or held i d) q (all-came i d (omega arith))
            (λ q-in. kept.order i j q d l m q-in (subst (λ x. Same x (get_or held j d)) (get_or_append_left came (k ∷ []) d q q-in) e));
      }

  -- or that is new
  module _ (k : K) (came held : List K) (kept : KeptBy Same came held) (new : (y : K) → Contains held y → Same y k → ⊥) where
    -- nothing came that is the same
    new_came : (q : ℕ) (d : K) → q < length came → Same (get_or came q d) k → ⊥
    new_came q d l e =
        let had = kept.every (get_or came q d) (Contains-get_or came q d l) in
        new had.0 had.1 (is.through had.0 (get_or came q d) k (is.back (get_or came q d) had.0 had.2) e)

    -- where one that is held is the same as one that came, it is not the new one
    held_before : (j q : ℕ) (d : K) → j < length (held ++ (k ∷ [])) → q < length came → Same (get_or (came ++ (k ∷ [])) q d) (get_or (held ++ (k ∷ [])) j d) → (j < length held) × Same (get_or came q d) (get_or held j d)
    held_before j q d l q-in e =
        let here = subst (λ x. Same x (get_or (held ++ (k ∷ [])) j d)) (get_or_append_left came (k ∷ []) d q q-in) e in
        ⊎_elim
        (λ (j-in : j < length held). (j-in, subst (Same (get_or came q d)) (get_or_append_left held (k ∷ []) d j j-in) here))
        (λ (past : length held ≤ j).
        let last : length held ≡ j = omega (arith, length_push held k) in
        absurd (new_came q d q-in (subst (Same (get_or came q d)) (get_or_push held k d j last) here)))
        (cases_lt j (length held))

    only_pushed : (x : K) → Contains (held ++ (k ∷ [])) x → Contains (came ++ (k ∷ [])) x
    only_pushed x h =
        ⊎_elim (λ h'. Contains-append_left came (k ∷ []) x (kept.only x h'))
        (λ e. subst (Contains (came ++ (k ∷ []))) e (Contains-push came k))
        (Contains-push_cases held k x h)

    pub kept_new : KeptBy Same (came ++ (k ∷ [])) (held ++ (k ∷ []))
    kept_new = record {
      once = new_apart Same k held kept.once new;
      only = only_pushed;
      every =
          λ x h.
          ⊎_elim
          (λ h'. let had = kept.every x h' in (had.0, Contains-append_left held (k ∷ []) had.0 had.1, had.2))
          (λ e. (k, Contains-push held k, subst (λ z. Same z k) e (is.itself k)))
          (Contains-push_cases came k x h);
      first =
          λ j q d l in' e.
          ⊎_elim
          (λ (q-in : q < length came).
          let had = held_before j q d l q-in e in
          subst (Contains (take (q + 1) (came ++ (k ∷ [])))) (sym (get_or_append_left held (k ∷ []) d j had.0))
          (subst (λ cs. Contains cs (get_or held j d)) (sym (take-append-le (q + 1) came (k ∷ []) (omega arith))) (kept.first j q d had.0 q-in had.1)))
          (λ (past : length came ≤ q).
          subst (λ cs. Contains cs (get_or (held ++ (k ∷ [])) j d)) (sym (take_all (q + 1) (came ++ (k ∷ [])) (omega (arith, length_push came k))))
          (only_pushed (get_or (held ++ (k ∷ [])) j d) (Contains-get_or (held ++ (k ∷ [])) j d l)))
          (cases_lt q (length came));
      order =
          λ i j q d l m in' e.
          let i-in : i < length held = omega (arith, length_push held k) in
          subst (Contains (take q (came ++ (k ∷ [])))) (sym (get_or_append_left held (k ∷ []) d i i-in))
          (came_before came k (get_or held i d) q (kept.only (get_or held i d) (Contains-get_or held i d i-in))
          (λ q-in. let had = held_before j q d m q-in e in kept.order i j q d l had.0 q-in had.1));
    }

pub kept_none : {K : Type 0} (Same : K → K → Type 0) → KeptBy Same [] []
kept_none Same = record {
  once = λ i j d l m. absurd (omega arith);
  only = λ x h. h;
  every = λ x h. absurd (omega (arith, h.1));
  first = λ j q d l. absurd (omega arith);
  order = λ i j q d l m. absurd (omega arith);
}

-- one key more
pub kept_more : {K : Type 0} (eq : K → K → Bool) → IsEquivalence eq → (k : K) (came held : List K) → KeptBy (Equal eq) came held → KeptBy (Equal eq) (came ++ (k ∷ [])) (enter eq k held)
kept_more eq E k came held kept =
    let is = equal_sameness eq E in
    enter_both eq k held (KeptBy (Equal eq) (came ++ (k ∷ [])))
    (λ l. kept_there (Equal eq) is k came held kept (placed_has eq k held l))
    (λ e. kept_new (Equal eq) is k came held kept (placed_new eq E k held e))

-- from what came before on
pub kept_all : {K : Type 0} (eq : K → K → Bool) → IsEquivalence eq → (came held ks : List K) → KeptBy (Equal eq) came held → KeptBy (Equal eq) (came ++ ks) (enter_all eq held ks)
kept_all eq E came held [] kept = subst (λ cs. KeptBy (Equal eq) cs held) (sym (append-nil came)) kept
kept_all eq E came held (k ∷ ks) kept =
    subst (λ cs. KeptBy (Equal eq) cs (enter_all eq (enter eq k held) ks)) (append_assoc came (k ∷ []) ks)
    (kept_all eq E (came ++ (k ∷ [])) (enter eq k held) ks (kept_more eq E k came held kept))
