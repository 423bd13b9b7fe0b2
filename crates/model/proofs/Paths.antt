-- A history stands at a state. Where a model unfolds a ground model, each history of the ground model has just one history above it.
use Rattle.std.proofs.Common.{◌≡◌, ℕ, ◌+◌, ◌-◌, ◌<◌, ◌≤◌, Bool, true, List, [], ◌∷◌, ◌++◌, map, length, get_or, take, inl, inr, sym, refl, ap, ◌∙◌, subst, append_assoc, arith}
use Rattle.std.specs.List.{Contains}
use Rattle.std.proofs.lemmas.List.Elements.{Contains-get_or}
use Rattle.std.proofs.lemmas.Bool.{cases_lt}
use Rattle.std.proofs.lemmas.List.{length_push, get_or_push, length-map, get_or-map, map-append, take_all, take-append-le}
use Rattle.model.specs.declared.Outcome.{Outcome}
use Rattle.model.specs.Models.{Model, Lawful}
use Rattle.model.specs.Histories.{final, targets_of, Shown, History, begun, onward, Path, along, Unfolds, grounds, OnePathAbove}
use Rattle.model.proofs.Laws.{target_state}

pub final-push : (h : List ℕ) (t : ℕ) → final (h ++ (t ∷ [])) ≡ t
final-push h t =
    let last : length (h ++ (t ∷ [])) - 1 ≡ length h = omega (arith, length_push h t) in
    ap (λ k. get_or (h ++ (t ∷ [])) k 0) last ∙ get_or_push h t 0 (length h) refl

-- a history has a state
pub some_history : (g : Model) (offered : List ℕ → ℕ → Bool) (h : List ℕ) → History g offered h → 1 ≤ length h
some_history g offered h begun = omega arith
some_history g offered h (onward {h = before} a t hist off has) = omega (arith, length_push before t)

-- a history by some offers is one by wider offers
pub history_wider : (g : Model) (narrow wide : List ℕ → ℕ → Bool) → ((h : List ℕ) (a : ℕ) → narrow h a ≡ true → wide h a ≡ true) → (h : List ℕ) → History g narrow h → History g wide h
history_wider g narrow wide more h begun = begun
history_wider g narrow wide more h (onward {h = before} a t hist off has) = onward a t (history_wider g narrow wide more before hist) (more before a off) has

-- a history up to an earlier position is one too
pub history_take : (g : Model) (offered : List ℕ → ℕ → Bool) (h : List ℕ) → History g offered h → (i : ℕ) → i < length h → History g offered (take (i + 1) h)
history_take g offered h begun i l = subst (History g offered) (sym (take_all (i + 1) (g.start ∷ []) (omega arith))) begun
history_take g offered h (onward {h = before} a t hist off has) i l =
    elim (cases_lt i (length before)) [
      | inl less ↦ subst (History g offered) (sym (take-append-le (i + 1) before (t ∷ []) (omega arith))) (history_take g offered before hist i less)
      | inr past ↦ subst (History g offered) (sym (take_all (i + 1) (before ++ (t ∷ [])) (omega (arith, length_push before t)))) (onward a t hist off has)
    ]

-- a history stands at a state, whatever narrows what is offered
pub history_state : (g : Model) → Lawful g → (offered : List ℕ → ℕ → Bool) (h : List ℕ) → History g offered h → g.state (final h) ≡ true
history_state g law offered h begun = law.states.starts
history_state g law offered h (onward {h = before} a t hist off has) =
    ap g.state (final-push before t) ∙ target_state g law (final before) a t has

-- a target of mapped outcomes is the image of a target
has_image : (f : ℕ → ℕ) (os ps : List Outcome) (t : ℕ) → targets_of ps ≡ map f (targets_of os) → Contains (targets_of ps) t → (u : ℕ) × (Contains (targets_of os) u × (f u ≡ t))
has_image f os ps t same (k, l, at) =
    let size : length (map f (targets_of os)) ≡ length (targets_of os) = length-map (targets_of os) f in
    let inside : k < length (targets_of os) = omega (arith, ap length same, size) in
    (get_or (targets_of os) k 0, (Contains-get_or (targets_of os) k 0 inside, sym (get_or-map f (targets_of os) k 0 t inside) ∙ ap (λ l. get_or l k t) (sym same) ∙ at))

image_has : (f : ℕ → ℕ) (os ps : List Outcome) (u : ℕ) → targets_of ps ≡ map f (targets_of os) → Contains (targets_of os) u → Contains (targets_of ps) (f u)
image_has f os ps u same (k, l, at) =
    let size : length (map f (targets_of os)) ≡ length (targets_of os) = length-map (targets_of os) f in
    (k, omega (arith, ap length same, size), ap (λ l. get_or l k (f u)) same ∙ get_or-map f (targets_of os) k u (f u) l ∙ ap f at)

map-targets : (code : List ℕ → ℕ) (h : List ℕ) (os : List Outcome) → targets_of (map (along code h) os) ≡ map (λ u. code (h ++ (u ∷ []))) (targets_of os)
map-targets code h [] = refl
map-targets code h (o ∷ os) = ap (λ l. code (h ++ (o.target ∷ [])) ∷ l) (map-targets code h os)

-- the states that a history stands at, after what was done before
abbrev stands : (List ℕ → ℕ) → List ℕ → List ℕ → List ℕ
stands code done [] = []
stands code done (t ∷ rest) = code (done ++ (t ∷ [])) ∷ stands code (done ++ (t ∷ [])) rest

stands-push : (code : List ℕ → ℕ) (done h : List ℕ) (t : ℕ) → stands code done (h ++ (t ∷ [])) ≡ stands code done h ++ (code (done ++ (h ++ (t ∷ []))) ∷ [])
stands-push code done [] t = refl
stands-push code done (x ∷ h) t =
    ap (λ l. code (done ++ (x ∷ [])) ∷ l) (stands-push code (done ++ (x ∷ [])) h t ∙ ap (λ l. stands code (done ++ (x ∷ [])) h ++ (code l ∷ [])) (append_assoc done (x ∷ []) (h ++ (t ∷ []))))

module _ (g : Model) (sh : Shown) (m : Model) (code : List ℕ → ℕ) (u : Unfolds g sh m code) where
  outcome_targets : (h : List ℕ) → History g sh.offered h → (a : ℕ) → sh.offered h a ≡ true → targets_of (m.outcomes (code h) a) ≡ map (λ t. code (h ++ (t ∷ []))) (targets_of (g.outcomes (final h) a))
  outcome_targets h hist a off = ap targets_of (u.moves h hist a off) ∙ map-targets code h (g.outcomes (final h) a)

  -- what stands over a history of the ground model
  abbrev Over : List ℕ → List ℕ → Type 0
  Over h p = (p ≡ stands code [] h) × ((final p ≡ code h) × (grounds m p ≡ h))

  pub one_over : (h : List ℕ) → History g sh.offered h → (p : List ℕ) × (Path m p × Over h p)
  one_over h begun =
      (m.start ∷ [], (begun, (ap (λ s. s ∷ []) (sym u.first), (sym u.first, ap (λ s. s ∷ []) (ap m.site (sym u.first) ∙ u.sites (g.start ∷ []) begun)))))
  one_over h (onward {h = before} a t hist off has) =
      let up = one_over before hist in
      let p = up.0 in
      let told = up.1.1 in
      let offered : m.offered (final up.0) a ≡ true = ap (λ s. m.offered s a) told.1.0 ∙ u.offers before hist a ∙ off in
      let target : Contains (targets_of (m.outcomes (final up.0) a)) (code (before ++ (t ∷ []))) =
      subst (λ s. Contains (targets_of (m.outcomes s a)) (code (before ++ (t ∷ [])))) (sym told.1.0) (image_has (λ t. code (before ++ (t ∷ []))) (g.outcomes (final before) a) (m.outcomes (code before) a) t (outcome_targets before hist a off) has) in (
        up.0 ++ (code (before ++ (t ∷ [])) ∷ []),
        (
          onward a (code (before ++ (t ∷ []))) up.1.0 offered target,
          (
            ap (λ l. l ++ (code (before ++ (t ∷ [])) ∷ [])) told.0 ∙ sym (stands-push code [] before t),
            (
              final-push up.0 (code (before ++ (t ∷ []))),
              map-append m.site up.0 (code (before ++ (t ∷ [])) ∷ []) ∙ (λ i. told.1.1 i ++ ((u.sites (before ++ (t ∷ [])) (onward a t hist off has) ∙ final-push before t) i ∷ [])),
            ),
          ),
        ),
      )

  pub under_one : (p : List ℕ) → Path m p → (h : List ℕ) × (History g sh.offered h × Over h p)
  under_one p begun =
      (g.start ∷ [], (begun, (ap (λ s. s ∷ []) (sym u.first), (sym u.first, ap (λ s. s ∷ []) (ap m.site (sym u.first) ∙ u.sites (g.start ∷ []) begun)))))
  under_one p (onward {h = before} a t hist off has) =
      let down = under_one before hist in
      let h = down.0 in
      let told = down.1.1 in
      let here : m.offered (code down.0) a ≡ true = ap (λ s. m.offered s a) (sym told.1.0) ∙ off in
      let there : Contains (targets_of (m.outcomes (code down.0) a)) t = subst (λ s. Contains (targets_of (m.outcomes s a)) t) told.1.0 has in
      let open_here : sh.offered down.0 a ≡ true = sym (u.offers down.0 down.1.0 a) ∙ here in
      let found = has_image (λ t. code (down.0 ++ (t ∷ []))) (g.outcomes (final down.0) a) (m.outcomes (code down.0) a) t (outcome_targets down.0 down.1.0 a open_here) there in
      let longer : History g sh.offered (down.0 ++ (found.0 ∷ [])) = onward a found.0 down.1.0 open_here found.1.0 in (
        down.0 ++ (found.0 ∷ []),
        (
          longer,
          (
            ap (λ l. l ++ (t ∷ [])) told.0 ∙ ap (λ s. stands code [] down.0 ++ (s ∷ [])) (sym found.1.1) ∙ sym (stands-push code [] down.0 found.0),
            (
              final-push before t ∙ sym found.1.1,
              map-append m.site before (t ∷ []) ∙ (λ i. told.1.1 i ++ ((ap m.site (sym found.1.1) ∙ u.sites (down.0 ++ (found.0 ∷ [])) longer ∙ final-push down.0 found.0) i ∷ [])),
            ),
          ),
        ),
      )

  -- each history has just one path above it
  pub one_path_above : OnePathAbove g sh m
  one_path_above = record {
    one = λ h hist. let up = one_over h hist in (up.0, (up.1.0, up.1.1.1.1));
    only = λ p q hp hq same.
        let a = under_one p hp in
        let b = under_one q hq in
        a.1.1.0 ∙ ap (stands code []) (sym a.1.1.1.1 ∙ same ∙ b.1.1.1.1) ∙ sym b.1.1.0;
    below = λ p hp. let a = under_one p hp in subst (History g sh.offered) (sym a.1.1.1.1) a.1.0;
  }
