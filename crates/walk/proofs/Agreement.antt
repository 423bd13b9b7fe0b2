-- A walk on a model that unfolds a ground model agrees with the reckoner over it, under every table of discounts and through every list
-- of numbers: the walk always stands where the reckoner's record leads, in the slot of its end and with its total. For others: `agrees_over_all`, `beside_over_all`.
use Rattle.std.proofs.Common.{◌≡◌, ℕ, zero, suc, ◌+◌, ◌-◌, ◌<◌, Bool, true, List, [], ◌∷◌, ◌++◌, length, ℤ, pos, ◌+ℤ◌, ◌*ℤ◌, Option, Some, None, sym, refl, ap, ◌∙◌, subst, nat_lt, arith}
use Rattle.std.specs.List.{Contains, slice_get}
use Rattle.std.specs.Option.{option_map}
use Rattle.std.proofs.lemmas.Bool.Decides.{nat_tests}
use Rattle.std.proofs.lemmas.Int.{ints}
use Rattle.std.proofs.lemmas.List.{length_push, length-map, get_or-map, take_all, take-append-le}
use Rattle.std.proofs.lemmas.Option.{slice_get-map, slice_get_within, get_or_from_slice_get}
use Rattle.model.specs.declared.Outcome.{Outcome}
use Rattle.model.specs.Histories.{final, targets_of, Shown, History, begun as first, onward, along, Unfolds}
use Rattle.model.specs.Models.{Model}
use Rattle.model.proofs.Paths.{some_history}
use Rattle.refusal.specs.declared.Refusal.{Refusal}
use Rattle.refusal.specs.declared.Refusal.TheVariants.{NotOffered, LastSlot}
use Rattle.refusal.specs.Rows.{first_failing}
use Rattle.refusal.proofs.Rows.{passed}
use Rattle.walk.specs.Turns.{Turn, turned, choice_refusal}
use Rattle.walk.specs.Walker.{Stand, Walk, standing, choosing, begun, choice, arrived, chosen_in, told, telling, turn, walk_has, reached, run, stands_at}
use Rattle.walk.specs.Reckoner.{Reckoner, begins, reckon_choice, reckon_outcome, reckon_by, reckoned_after, sum_below, counted_at, total_of, reckoner_has, reckon_run, Agree, AgreesOverAll, BesideOverAll, StaysBeside}
use Rattle.weighing.specs.Discounts.{discount_of}

-- the last slot is that of thirteen states
slots_same : (n : ℕ) → nat_lt (n - 1) 12 ≡ nat_lt n 13
slots_same n = grind (arith, nat_tests)

-- a choice that is not refused is offered
not_refused : (slots : Bool) (offered : ℕ → Bool) (a : ℕ) → choice_refusal slots offered a ≡ None → offered a ≡ true
not_refused slots offered a e = passed ((slots, LastSlot) ∷ ((offered a, NotOffered) ∷ [])) e 1 (offered a, NotOffered) refl

target_told : (os : List Outcome) (n : ℕ) (o : Outcome) → slice_get os n ≡ Some o → Contains (targets_of os) o.target
target_told os n o e =
    let inside = slice_get_within os n o e in
    (n, omega (arith, length-map os (λ (o : Outcome). o.target)), get_or-map (λ (o : Outcome). o.target) os n o o.target inside ∙ ap (λ (o : Outcome). o.target) (get_or_from_slice_get os n o o e))

sum_same : (f k : ℕ → ℤ) (n : ℕ) → ((i : ℕ) → i < n → f i ≡ k i) → sum_below f n ≡ sum_below k n
sum_same f k zero h = refl
sum_same f k (suc n) h = λ i. sum_same f k n (λ j l. h j (omega arith)) i +ℤ h n (omega arith) i

-- one state more adds what the longer history counts
total_push : (d : ℕ → ℕ) (reward : List ℕ → ℤ) (h : List ℕ) (t : ℕ) → total_of d reward (h ++ (t ∷ [])) ≡ total_of d reward h +ℤ (pos (d (length h)) *ℤ reward (h ++ (t ∷ [])))
total_push d reward h t =
    let longer : List ℕ = h ++ (t ∷ []) in
    let end : length longer ≡ suc (length h) = omega (arith, length_push h t) in
    ap (sum_below (counted_at d reward longer)) end
    ∙ (λ i. sum_same (counted_at d reward longer) (counted_at d reward h) (length h) (λ j l. ap (λ k. pos (d j) *ℤ reward k) (take-append-le (j + 1) h (t ∷ []) (omega arith))) i +ℤ (pos (d (length h)) *ℤ reward (take_all (length h + 1) longer (omega arith) i)))

module _ (d : ℕ → ℕ) (g : Model) (sh : Shown) (m : Model) (code : List ℕ → ℕ) (u : Unfolds g sh m code) where
  -- where a record leads
  abbrev over : List ℕ → Stand
  over h = record { state = code h; slot = length h - 1; total = total_of d sh.reward h }

  abbrev walk_at : List ℕ → Option ℕ → Walk
  walk_at h None = standing (over h)
  walk_at h (Some a) = choosing (over h) a

  -- an open choice is offered
  abbrev Offered : List ℕ → Option ℕ → Type 0
  Offered h None = Unit {0}
  Offered h (Some a) = sh.offered h a ≡ true

  -- both answer alike, and then the walk stands where the record leads
  record Together (t : Turn Walk) (r : Turn Reckoner) : Type 0 where
    refused : t.refused ≡ r.refused
    there : t.next ≡ walk_at r.next.history r.next.chosen
    history : History g sh.offered r.next.history
    offered : Offered r.next.history r.next.chosen

  choices : (h : List ℕ) → History g sh.offered h → (a : ℕ) (why : Option Refusal) → (why ≡ None → sh.offered h a ≡ true)
      → Together (turned why (standing (over h)) (choosing (over h) a)) (turned why (record { history = h; chosen = None }) (record { history = h; chosen = Some a }))
  choices h hist a None off = record { refused = refl; there = refl; history = hist; offered = off refl }
  choices h hist a (Some why) off = record { refused = refl; there = refl; history = hist; offered = tt }

  choice_together : (h : List ℕ) → History g sh.offered h → (a : ℕ) → Together (choice m (over h) a) (reckon_choice sh h a)
  choice_together h hist a =
      let why = choice_refusal (nat_lt (length h) 13) (sh.offered h) a in
      let same : choice m (over h) a ≡ turned why (standing (over h)) (choosing (over h) a) =
      λ i. turned (first_failing ((slots_same (length h) i, LastSlot) ∷ ((u.offers h hist a i, NotOffered) ∷ []))) (standing (over h)) (choosing (over h) a) in
      subst (λ t. Together t (reckon_choice sh h a)) (sym same) (choices h hist a why (not_refused (nat_lt (length h) 13) (sh.offered h) a))

  -- an outcome leads to where the longer record does
  arrives : (h : List ℕ) → History g sh.offered h → (o : Outcome) → History g sh.offered (h ++ (o.target ∷ [])) → arrived d m (over h) (along code h o) ≡ over (h ++ (o.target ∷ []))
  arrives h hist o longer =
      let some = some_history g sh.offered h hist in
      let slot : length h - 1 + 1 ≡ length (h ++ (o.target ∷ [])) - 1 = omega (arith, length_push h o.target) in
      let here : length h - 1 + 1 ≡ length h = omega arith in
      let total : total_of d sh.reward h +ℤ (pos (d (length h - 1 + 1)) *ℤ m.reward (code (h ++ (o.target ∷ [])))) ≡ total_of d sh.reward (h ++ (o.target ∷ [])) =
      (λ i. total_of d sh.reward h +ℤ (pos (d (here i)) *ℤ u.rewards (h ++ (o.target ∷ [])) longer i)) ∙ sym (total_push d sh.reward h o.target) in
      λ i. record { state = code (h ++ (o.target ∷ [])); slot = slot i; total = total i }

  tellings : (h : List ℕ) → History g sh.offered h → (a n : ℕ) → sh.offered h a ≡ true → (o : Option Outcome) → slice_get (g.outcomes (final h) a) n ≡ o → Together (told d m (over h) a (option_map (along code h) o)) (reckon_outcome h a o)
  tellings h hist a n off None e = record { refused = refl; there = refl; history = hist; offered = off }
  tellings h hist a n off (Some o) e =
      let longer : History g sh.offered (h ++ (o.target ∷ [])) = onward a o.target hist off (target_told (g.outcomes (final h) a) n o e) in
      record { refused = refl; there = ap standing (arrives h hist o longer); history = longer; offered = tt }

  telling_together : (h : List ℕ) → History g sh.offered h → (a n : ℕ) → sh.offered h a ≡ true → Together (telling d m (over h) a n) (reckon_outcome h a (slice_get (g.outcomes (final h) a) n))
  telling_together h hist a n off =
      let same : slice_get (m.outcomes (code h) a) n ≡ option_map (along code h) (slice_get (g.outcomes (final h) a) n) =
      ap (λ os. slice_get os n) (u.moves h hist a off) ∙ slice_get-map (along code h) (g.outcomes (final h) a) n in
      subst (λ o. Together (told d m (over h) a o) (reckon_outcome h a (slice_get (g.outcomes (final h) a) n))) (sym same) (tellings h hist a n off (slice_get (g.outcomes (final h) a) n) refl)

  turns_together : (h : List ℕ) (c : Option ℕ) → History g sh.offered h → Offered h c → (n : ℕ) → Together (turn d m (walk_at h c) n) (reckon_by g sh h c n)
  turns_together h None hist off n = choice_together h hist n
  turns_together h (Some a) hist off n = telling_together h hist a n off

  has_same : (h : List ℕ) (c : Option ℕ) → History g sh.offered h → walk_has m (walk_at h c) ≡ reckoner_has d sh (record { history = h; chosen = c })
  has_same h None hist = λ i. record { site = u.sites h hist i; slot = length h - 1; reward = u.rewards h hist i; total = total_of d sh.reward h }
  has_same h (Some a) hist = λ i. record { site = u.sites h hist i; slot = length h - 1; reward = u.rewards h hist i; total = total_of d sh.reward h }

  runs_same : (ns : List ℕ) (h : List ℕ) (c : Option ℕ) → History g sh.offered h → Offered h c → run d m (walk_at h c) ns ≡ reckon_run d g sh (record { history = h; chosen = c }) ns
  unfolding run reckon_run
  runs_same [] h c hist off = refl
  runs_same (n ∷ ns) h c hist off =
      let t = turns_together h c hist off n in
      let r : Reckoner = (reckon_by g sh h c n).next in
      λ i. record { refusal = t.refused i; sight = (ap (walk_has m) t.there ∙ has_same r.history r.chosen t.history) i } ∷ (ap (λ w. run d m w ns) t.there ∙ runs_same ns r.history r.chosen t.history t.offered) i

  begins_there : begun d m ≡ walk_at (g.start ∷ []) None
  begins_there =
      let earned : m.reward m.start ≡ sh.reward (g.start ∷ []) = ap m.reward (sym u.first) ∙ u.rewards (g.start ∷ []) first in
      let total : pos (d 0) *ℤ m.reward m.start ≡ pos 0 +ℤ (pos (d 0) *ℤ sh.reward (g.start ∷ [])) = ap (λ r. pos (d 0) *ℤ r) earned ∙ omega (arith, ints) in
      λ i. standing (record { state = sym u.first i; slot = 0; total = total i })

  -- after further numbers the walk stands where the record then leads
  beside_after : (ns : List ℕ) (h : List ℕ) (c : Option ℕ) → History g sh.offered h → Offered h c
      → (reached d m (walk_at h c) ns ≡ walk_at (reckoned_after g sh (record { history = h; chosen = c }) ns).history (reckoned_after g sh (record { history = h; chosen = c }) ns).chosen)
      × History g sh.offered (reckoned_after g sh (record { history = h; chosen = c }) ns).history
  unfolding reached reckoned_after
  beside_after [] h c hist off = (refl, hist)
  beside_after (n ∷ ns) h c hist off =
      let t = turns_together h c hist off n in
      let r : Reckoner = (reckon_by g sh h c n).next in
      let later = beside_after ns r.history r.chosen t.history t.offered in
      (ap (λ w. reached d m w ns) t.there ∙ later.0, later.1)

  stands_there : (h : List ℕ) (c : Option ℕ) → stands_at (walk_at h c) ≡ code h
  stands_there h None = refl
  stands_there h (Some a) = refl

  chosen_there : (h : List ℕ) (c : Option ℕ) → chosen_in (walk_at h c) ≡ c
  chosen_there h None = refl
  chosen_there h (Some a) = refl

  pub walk_beside : StaysBeside d g sh m code
  walk_beside ns =
      let r : Reckoner = reckoned_after g sh (begins g) ns in
      let after = beside_after ns (g.start ∷ []) None first tt in
      let there : reached d m (begun d m) ns ≡ walk_at r.history r.chosen = ap (λ w. reached d m w ns) begins_there ∙ after.0 in
      record {
        led = after.1;
        stands = ap stands_at there ∙ stands_there r.history r.chosen;
        chosen = ap chosen_in there ∙ chosen_there r.history r.chosen;
        has = ap (walk_has m) there ∙ has_same r.history r.chosen after.1;
      }

  pub walk_agrees : Agree d g sh m
  walk_agrees = record {
    opening = ap (walk_has m) begins_there ∙ has_same (g.start ∷ []) None first;
    always = λ ns. ap (λ w. run d m w ns) begins_there ∙ runs_same ns (g.start ∷ []) None first tt;
  }

pub agrees_over_all : (m : Model) → AgreesOverAll m
agrees_over_all m = λ g sh code u. walk_agrees discount_of g sh m code u

pub beside_over_all : (m : Model) → BesideOverAll m
beside_over_all m = λ g sh code u. walk_beside discount_of g sh m code u
