-- What the states of a pile tell of each floor: from what a pile keeps, floor by floor, and the bits of one layer.
use Rattle.std.proofs.Common.{◌≡◌, ℕ, zero, suc, ◌+◌, ◌-◌, ◌^◌, ◌<◌, ◌≤◌, Bool, true, false, not, cond, ltb, List, [], ◌∷◌, ◌++◌, map, length, get_or, take, filter, fold, ℤ, ◌+ℤ◌, Some, IsTrue, ◌↔◌, sym, refl, ap, ◌∙◌, subst, arith}
use Rattle.std.specs.List.{slice_get}
use Rattle.std.proofs.lemmas.Bool.{and_parts, cond-true, ltb-true, both_ways}
use Rattle.std.proofs.lemmas.List.{length-map, take-map, get_or-take, get_or-map, length-take-le}
use Rattle.std.proofs.lemmas.Nat.{div-mul-add}
use Rattle.std.proofs.lemmas.Option.{get_or_from_slice_get, slice_get_within}
use Rattle.formula.specs.declared.Item.{Item}
use Rattle.formula.specs.declared.Item.TheVariants.{Held, Failed}
use Rattle.formula.specs.Formulas.{Formula, truth, formulas, earlier}
use Rattle.formula.proofs.Trees.{length-formulas}
use Rattle.model.specs.Histories.{final, by_itself, History, Path, grounds, Unfolds}
use Rattle.model.specs.Models.{Model, Lawful, Ground}
use Rattle.model.proofs.Paths.{some_history, under_one, history_take, history_wider}
use Rattle.truth.specs.Truth.{Trace, labelled, before, holds, IsTrueAt}
use Rattle.truth.proofs.Plain.{plain_truth}
use Rattle.truth.proofs.Unfolding.{holds_local}
use Rattle.words.specs.Tests.{all}
use Rattle.wishbook.specs.Book.{Book}
use Rattle.wishlayout.specs.declared.Wish.{Wish}
use Rattle.wishlayout.specs.Wishes.{amount, good_wish}
use Rattle.layermodel.specs.Verdicts.{item_held, wish_held, earned}
use Rattle.layermodel.proofs.Lawfulness.{memory_packed, over_lawful}
use Rattle.layermodel.specs.Layered.{fits, under, memory, layered, over}
use Rattle.layermodel.specs.Records.{trace_of, end_of, truths, memory_at, code_over, shown_over, tells, SoundBook}
use Rattle.layermodel.proofs.Sizes.{bits_small}
use Rattle.layermodel.proofs.Bits.{memory_tells, wishes_show, labels_stay}
use Rattle.layermodel.proofs.Unfolds.{layer_unfolds}
use Rattle.pilemodel.specs.Piles.{Floor, bare, wishes, floor_over, piled, Piling, piling, Place, on_ground, with_floor, with_floors, SoundFloor, SoundFloors, Laid}
use Rattle.pilemodel.specs.Telling.{below_floor, state_below, memory_of_floor, masks_below, formula_at, Told, OneEarlier, wish_holds, FloorTells, BitsTell}
use Rattle.pilemodel.proofs.Keeping.{pile_keeps, laid_is}

-- floors on floors
with_floors-append : (m : Model) (sh : Place) (fs gs : List Floor) → with_floors m sh (fs ++ gs) ≡ with_floors (piled m fs) (with_floors m sh fs) gs
with_floors-append m sh [] gs = refl
with_floors-append m sh (f ∷ fs) gs = with_floors-append (floor_over m f) (with_floor m sh f) fs gs

piled-append : (m : Model) (fs gs : List Floor) → piled m (fs ++ gs) ≡ piled (piled m fs) gs
piled-append m [] gs = refl
piled-append m (f ∷ fs) gs = piled-append (floor_over m f) fs gs

sound_lower : (fs gs : List Floor) → SoundFloors (fs ++ gs) → SoundFloors fs
sound_lower [] gs ok = tt
sound_lower (f ∷ fs) gs ok = (ok.0, sound_lower fs gs ok.1)

sound_upper : (fs gs : List Floor) → SoundFloors (fs ++ gs) → SoundFloors gs
sound_upper [] gs ok = ok
sound_upper (f ∷ fs) gs ok = sound_upper fs gs ok.1

floor_lawful : (m : Model) (f : Floor) → SoundFloor f → Lawful m → Lawful (floor_over m f)
floor_lawful m bare ok law = law
floor_lawful m (wishes b) ok law = over_lawful m (Some b) law ok.few

piled_lawful : (m : Model) (fs : List Floor) → SoundFloors fs → Lawful m → Lawful (piled m fs)
piled_lawful m [] ok law = law
piled_lawful m (f ∷ fs) ok law = piled_lawful (floor_over m f) fs ok.1 (floor_lawful m f ok.0 law)

-- a memory has 16 bits
memory_small : (b : Book) → SoundBook b → (τ : Trace) (n : ℕ) → memory_at b τ n < 65536
memory_small b ok τ zero = omega arith
memory_small b ok τ (suc n) = bits_small (item_held (truths b.nodes τ n)) b.items ok.few

-- what a book that is laid makes of what is shown_below
abbrev with_book : Model → Place → Book → Place
with_book m sh b = record { code = code_over sh.code sh.shown.mask b; shown = shown_over m.labels b sh.shown }

-- below the floors stands what the floors stand on
code_below_floor : (m : Model) (sh : Place) (f : Floor) → SoundFloor f → (h : List ℕ) → below_floor m f ((with_floor m sh f).code h) ≡ sh.code h
code_below_floor m sh bare ok h = refl
code_below_floor m sh (wishes b) ok h = by_fit (fits m b)
  where
    by_fit : (t : Bool) → cond t (under ((cond t (with_book m sh b) sh).code h)) ((cond t (with_book m sh b) sh).code h) ≡ sh.code h
    by_fit true = div-mul-add (sh.code h) 65536 (memory_at b (trace_of sh.shown.mask h) (end_of h)) (memory_small b ok (trace_of sh.shown.mask h) (end_of h))
    by_fit false = refl

code_below : (m : Model) (sh : Place) (fs : List Floor) → SoundFloors fs → (h : List ℕ) → state_below m fs ((with_floors m sh fs).code h) ≡ sh.code h
code_below m sh [] ok h = refl
code_below m sh (f ∷ fs) ok h = ap (below_floor m f) (code_below (floor_over m f) (with_floor m sh f) fs ok.1 h) ∙ code_below_floor m sh f ok.0 h

-- upper floors leave the bits below
more_labels : (m : Model) (f : Floor) → m.labels ≤ (floor_over m f).labels
more_labels m bare = omega arith
more_labels m (wishes b) = by_fit (fits m b)
  where
    by_fit : (t : Bool) → m.labels ≤ (cond t (layered m b) m).labels
    by_fit true = omega arith
    by_fit false = omega arith

floor_mask : (m : Model) (sh : Place) (f : Floor) (h : List ℕ) (q : ℕ) → q < m.labels → labelled ((with_floor m sh f).shown.mask h) q ≡ labelled (sh.shown.mask h) q
floor_mask m sh bare h q l = refl
floor_mask m sh (wishes b) h q l = by_fit (fits m b)
  where
    by_fit : (t : Bool) → labelled ((cond t (with_book m sh b) sh).shown.mask h) q ≡ labelled (sh.shown.mask h) q
    by_fit true = labels_stay b m.labels sh.shown.mask h q l
    by_fit false = refl

floors_mask : (m : Model) (sh : Place) (fs : List Floor) (h : List ℕ) (q : ℕ) → q < m.labels → labelled ((with_floors m sh fs).shown.mask h) q ≡ labelled (sh.shown.mask h) q
floors_mask m sh [] h q l = refl
floors_mask m sh (f ∷ fs) h q l =
    floors_mask (floor_over m f) (with_floor m sh f) fs h q (omega (arith, more_labels m f)) ∙ floor_mask m sh f h q l

-- the Boolean of a memory bit as plain words
before_plain : (n : ℕ) (P : ℕ → Bool) (Q : ℕ → Type 0) → ((j : ℕ) → j < n → IsTrue (P j) ↔ Q j) → IsTrue (before n P) ↔ OneEarlier n Q
before_plain zero P Q same = (λ e. absurd (both_ways false refl e), λ t. absurd (omega (arith, t.1.0)))
before_plain (suc n) P Q same = (
  λ e. (n, (refl, (same n (omega arith)).0 e)),
  λ t. let here : t.0 ≡ n = omega (arith, t.1.0) in (same n (omega arith)).1 (subst Q here t.1.1),
)

not_plain : (t : Bool) (Q : Type 0) → IsTrue t ↔ Q → IsTrue (not t) ↔ (Q → ⊥)
not_plain true Q same = (λ e. absurd (both_ways false refl e), λ none. absurd (none (same.0 refl)))
not_plain false Q same = (λ e q. both_ways false refl (same.1 q), λ none. refl)

told_plain : (b : Book) (τ : Trace) (x : Item) (j : ℕ) → IsTrue (tells b.nodes τ x j) ↔ Told b τ x j
told_plain b τ (Held i) j = plain_truth (formula_at b i) τ j
told_plain b τ (Failed i) j = not_plain (holds (formula_at b i) τ j) (IsTrueAt (formula_at b i) τ j) (plain_truth (formula_at b i) τ j)

-- what is earned, as the amounts of the wishes that hold
earned_filter : (sum : ℤ) (ws : List Wish) (vs : List Bool) → earned sum ws vs ≡ fold ◌+ℤ◌ sum (map amount (filter (wish_held vs) ws))
earned_filter sum [] vs = refl
earned_filter sum (w ∷ ws) vs = by_held (λ sum. earned_filter sum ws vs) (wish_held vs w)
  where
    by_held : ((sum : ℤ) → earned sum ws vs ≡ fold ◌+ℤ◌ sum (map amount (filter (wish_held vs) ws))) → (t : Bool) → earned (cond t (sum +ℤ amount w) sum) ws vs ≡ fold ◌+ℤ◌ sum (map amount (cond t (w ∷ filter (wish_held vs) ws) (filter (wish_held vs) ws)))
    by_held rest true = rest (sum +ℤ amount w)
    by_held rest false = rest sum

-- the wishes that hold, by the truths of all nodes and by the truth lines
held_same : (b : Book) (τ : Trace) (n : ℕ) (P : Wish → Bool) → ((w : Wish) → wish_holds b τ n w ≡ P w) → (ws : List Wish) → all (good_wish (length b.nodes)) ws ≡ true → filter (wish_held (truths b.nodes τ n)) ws ≡ filter P ws
held_same b τ n P same [] ok = refl
held_same b τ n P same (w ∷ ws) ok =
    let parts = and_parts (good_wish (length b.nodes) w) (all (good_wish (length b.nodes)) ws) ok in
    let inside = ltb-true w.node (length b.nodes) (and_parts (ltb w.node (length b.nodes)) (ltb w.raised 512) parts.0).0 in
    let here : wish_held (truths b.nodes τ n) w ≡ P w =
    get_or-map (λ f. holds f τ n) (formulas b.nodes) w.node truth false (omega (arith, length-formulas b.nodes)) ∙ same w in
    λ i. cond (here i) (w ∷ held_same b τ n P same ws parts.1 i) (held_same b τ n P same ws parts.1 i)

-- what a floor more offers, was offered before
floor_narrows : (m : Model) (sh : Place) (f : Floor) (h : List ℕ) (a : ℕ) → (with_floor m sh f).shown.offered h a ≡ true → sh.shown.offered h a ≡ true
floor_narrows m sh bare h a e = e
floor_narrows m sh (wishes b) h a e = by_fit (fits m b) e
  where
    by_fit : (t : Bool) → (cond t (with_book m sh b) sh).shown.offered h a ≡ true → sh.shown.offered h a ≡ true
    by_fit true e = e
    by_fit false e = e

floors_narrow : (m : Model) (sh : Place) (fs : List Floor) (h : List ℕ) (a : ℕ) → (with_floors m sh fs).shown.offered h a ≡ true → sh.shown.offered h a ≡ true
floors_narrow m sh [] h a e = e
floors_narrow m sh (f ∷ fs) h a e = floor_narrows m sh f h a (floors_narrow (floor_over m f) (with_floor m sh f) fs h a e)

module _ (g : Model) (law : Lawful g) (own : Ground g) where
  abbrev placed : List Floor → Place
  placed fs = with_floors g (on_ground g) fs

  -- a path of a pile, by the history below it
  path_below : (fs : List Floor) → SoundFloors fs → (p : List ℕ) → Path (piled g fs) p → History g (placed fs).shown.offered (grounds (piled g fs) p) × (final p ≡ (placed fs).code (grounds (piled g fs) p))
  path_below fs ok p path =
      let down = under_one g (placed fs).shown (piled g fs) (placed fs).code (pile_keeps g law own fs ok).unfolds p path in
      subst (λ h. History g (placed fs).shown.offered h × (final p ≡ (placed fs).code h)) (sym down.1.1.1.1) (down.1.0, down.1.1.1.0)

  pub site_below : (fs : List Floor) → SoundFloors fs → (p : List ℕ) → Path (piled g fs) p → state_below g fs (final p) ≡ (piled g fs).site (final p)
  site_below fs ok p path =
      let down = path_below fs ok p path in
      ap (state_below g fs) down.1 ∙ code_below g (on_ground g) fs ok (grounds (piled g fs) p) ∙ sym (ap (piled g fs).site down.1 ∙ (pile_keeps g law own fs ok).unfolds.sites (grounds (piled g fs) p) down.0)

  module _ (lower : List Floor) (b : Book) (upper : List Floor) (ok : SoundFloors (lower ++ (wishes b ∷ upper))) (fit : fits (piled g lower) b ≡ true) where
    abbrev m : Model
    m = piled g lower

    abbrev all_floors : List Floor
    all_floors = lower ++ (wishes b ∷ upper)

    abbrev pile : Model
    pile = piled g all_floors

    abbrev sh : Place
    sh = placed lower

    abbrev whole : Place
    whole = placed all_floors

    ok_lower : SoundFloors lower
    ok_lower = sound_lower lower (wishes b ∷ upper) ok

    ok_upper : SoundFloors (wishes b ∷ upper)
    ok_upper = sound_upper lower (wishes b ∷ upper) ok

    below : Unfolds g sh.shown m sh.code
    below = (pile_keeps g law own lower ok_lower).unfolds

    above : Unfolds g whole.shown pile whole.code
    above = (pile_keeps g law own all_floors ok).unfolds

    whole_is : whole ≡ with_floors m sh (wishes b ∷ upper)
    whole_is = with_floors-append g (on_ground g) lower (wishes b ∷ upper)

    abbrev laid : Place
    laid = with_book m sh b

    book_laid : with_floor m sh (wishes b) ≡ laid
    book_laid = cond-true (fits m b) laid sh fit

    code_lower : (h : List ℕ) → state_below m (wishes b ∷ upper) (whole.code h) ≡ sh.code h
    code_lower h = ap (λ (s : Place). state_below m (wishes b ∷ upper) (s.code h)) whole_is ∙ code_below m sh (wishes b ∷ upper) ok_upper h

    code_here : (h : List ℕ) → state_below (over m (Some b)) upper (whole.code h) ≡ code_over sh.code sh.shown.mask b h
    code_here h =
        ap (λ (s : Place). state_below (over m (Some b)) upper (s.code h)) whole_is
        ∙ code_below (over m (Some b)) (with_floor m sh (wishes b)) upper ok_upper.1 h
        ∙ ap (λ (s : Place). s.code h) book_laid

    -- what the whole pile offers along a history, the floors below offer
    lower_history : (h : List ℕ) → History g whole.shown.offered h → History g sh.shown.offered h
    lower_history h hist =
        history_wider g whole.shown.offered sh.shown.offered (λ k a e. floors_narrow m sh (wishes b ∷ upper) k a (sym (ap (λ (s : Place). s.shown.offered k a) whole_is) ∙ e)) h hist

    mask_below : (h : List ℕ) → History g whole.shown.offered h → m.mask (state_below m (wishes b ∷ upper) (whole.code h)) ≡ sh.shown.mask h
    mask_below h hist = ap m.mask (code_lower h) ∙ below.masks h (lower_history h hist)

    module _ (p : List ℕ) (path : Path pile p) where
      abbrev h : List ℕ
      h = grounds pile p

      hist : History g whole.shown.offered h
      hist = (path_below all_floors ok p path).0

      stands : final p ≡ whole.code h
      stands = (path_below all_floors ok p path).1

      same_end : end_of h ≡ end_of p
      same_end = ap (λ k. k - 1) (length-map p pile.site)

      abbrev shown_below : Trace
      shown_below = masks_below m (wishes b ∷ upper) p

      -- the record that the floors below show is that of the history
      shown_is : (i : ℕ) → i < length p → shown_below i ≡ trace_of sh.shown.mask h i
      shown_is i l =
          let down = path_below all_floors ok (take (i + 1) p) (history_take pile (by_itself pile).offered p path i l) in
          let last : final (take (i + 1) p) ≡ get_or p i 0 =
          ap (λ k. get_or (take (i + 1) p) k 0) (the_last i l) ∙ get_or-take (i + 1) p i 0 (omega arith) in
          ap (λ s. m.mask (state_below m (wishes b ∷ upper) s)) (sym last ∙ down.1)
          ∙ mask_below (grounds pile (take (i + 1) p)) down.0
          ∙ ap sh.shown.mask (sym (take-map pile.site (i + 1) p))
        where
          the_last : (i : ℕ) → i < length p → length (take (i + 1) p) - 1 ≡ i
          the_last i l = omega (arith, length-take-le (i + 1) p (omega arith))

      some : 1 ≤ length p
      some = some_history pile (by_itself pile).offered p path

      truth_is : (f : Formula) (j : ℕ) → j < length p → holds f (trace_of sh.shown.mask h) j ≡ holds f shown_below j
      truth_is f j l = holds_local f (trace_of sh.shown.mask h) shown_below j (λ i le. sym (shown_is i (omega arith)))

      tells_is : (x : Item) (j : ℕ) → j < length p → tells b.nodes (trace_of sh.shown.mask h) x j ≡ tells b.nodes shown_below x j
      tells_is (Held i) j l = truth_is (formula_at b i) j l
      tells_is (Failed i) j l = ap not (truth_is (formula_at b i) j l)

      memory_is : memory_of_floor m b upper (final p) ≡ memory_at b (trace_of sh.shown.mask h) (end_of p)
      memory_is =
          ap (memory_of_floor m b upper) stands
          ∙ ap memory (code_here h)
          ∙ memory_packed (sh.code h) (memory_at b (trace_of sh.shown.mask h) (end_of h)) (memory_small b ok_upper.0 (trace_of sh.shown.mask h) (end_of h))
          ∙ ap (memory_at b (trace_of sh.shown.mask h)) same_end

      memory_bit : (k : ℕ) (x : Item) → slice_get b.items k ≡ Some x → IsTrue (labelled (memory_of_floor m b upper (final p)) k) ↔ OneEarlier (end_of p) (Told b shown_below x)
      memory_bit k x here =
          let n = end_of p in
          let is : labelled (memory_of_floor m b upper (final p)) k ≡ before n (tells b.nodes (trace_of sh.shown.mask h) x) =
          ap (λ s. labelled s k) memory_is
          ∙ memory_tells b ok_upper.0 (trace_of sh.shown.mask h) n k (slice_get_within b.items k x here)
          ∙ ap (λ y. before n (tells b.nodes (trace_of sh.shown.mask h) y)) (get_or_from_slice_get b.items k x (Held 0) here) in
          subst (λ t. IsTrue t ↔ OneEarlier n (Told b shown_below x)) (sym is)
          (before_plain n (tells b.nodes (trace_of sh.shown.mask h) x) (Told b shown_below x) (λ j l. subst (λ t. IsTrue t ↔ Told b shown_below x j) (sym (tells_is x j (omega (arith, some)))) (told_plain b shown_below x j)))

      mask_is : pile.mask (final p) ≡ (with_floors m sh (wishes b ∷ upper)).shown.mask h
      mask_is = ap pile.mask stands ∙ above.masks h hist ∙ ap (λ (s : Place). s.shown.mask h) whole_is

      low : sh.shown.mask h < 2 ^ m.labels
      low = subst (λ k. k < 2 ^ m.labels) (mask_below h hist) ((piled_lawful g lower ok_lower law).shows.labelled (state_below m (wishes b ∷ upper) (whole.code h)))

      wish_bit : (k : ℕ) (w : Wish) → slice_get b.wishes k ≡ Some w → IsTrue (labelled (pile.mask (final p)) (m.labels + k)) ↔ IsTrueAt (formula_at b w.node) shown_below (end_of p)
      wish_bit k w here =
          let inside = slice_get_within b.wishes k w here in
          let room : (over m (Some b)).labels ≡ m.labels + length b.wishes = ap (λ (x : Model). x.labels) (cond-true (fits m b) (layered m b) m fit) in
          let is : labelled (pile.mask (final p)) (m.labels + k) ≡ holds (formula_at b w.node) shown_below (end_of p) =
          ap (λ x. labelled x (m.labels + k)) mask_is
          ∙ floors_mask (over m (Some b)) (with_floor m sh (wishes b)) upper h (m.labels + k) (omega (arith, room, inside))
          ∙ ap (λ (s : Place). labelled (s.shown.mask h) (m.labels + k)) book_laid
          ∙ wishes_show b ok_upper.0 m.labels sh.shown.mask h k w low inside
          ∙ ap (λ (y : Wish). holds (formula_at b y.node) (trace_of sh.shown.mask h) (end_of h)) (get_or_from_slice_get b.wishes k w w here)
          ∙ ap (holds (formula_at b w.node) (trace_of sh.shown.mask h)) same_end
          ∙ truth_is (formula_at b w.node) (end_of p) (omega (arith, some)) in
          subst (λ t. IsTrue t ↔ IsTrueAt (formula_at b w.node) shown_below (end_of p)) (sym is) (plain_truth (formula_at b w.node) shown_below (end_of p))

      label_bit : (q : ℕ) → q < m.labels → labelled (pile.mask (final p)) q ≡ labelled (m.mask (state_below m (wishes b ∷ upper) (final p))) q
      label_bit q l =
          ap (λ x. labelled x q) mask_is
          ∙ floors_mask m sh (wishes b ∷ upper) h q l
          ∙ ap (λ x. labelled x q) (sym (ap (λ s. m.mask (state_below m (wishes b ∷ upper) s)) stands ∙ mask_below h hist))

      reward_is : (over m (Some b)).reward (state_below (over m (Some b)) upper (final p)) ≡ fold ◌+ℤ◌ (m.reward (state_below m (wishes b ∷ upper) (final p))) (map amount (filter (wish_holds b shown_below (end_of p)) b.wishes))
      reward_is =
          let parts = and_parts (earlier b.nodes) (all (good_wish (length b.nodes)) b.wishes) ok_upper.0.names in
          let start : m.reward (state_below m (wishes b ∷ upper) (final p)) ≡ sh.shown.reward h =
          ap (λ s. m.reward (state_below m (wishes b ∷ upper) s)) stands ∙ ap m.reward (code_lower h) ∙ below.rewards h (lower_history h hist) in
          let held = held_same b (trace_of sh.shown.mask h) (end_of h) (wish_holds b shown_below (end_of p))
          (λ w. ap (holds (formula_at b w.node) (trace_of sh.shown.mask h)) same_end ∙ truth_is (formula_at b w.node) (end_of p) (omega (arith, some))) b.wishes parts.1 in
          ap (λ s. (over m (Some b)).reward (state_below (over m (Some b)) upper s)) stands
          ∙ ap (over m (Some b)).reward (code_here h)
          ∙ ap (λ (x : Model). x.reward (code_over sh.code sh.shown.mask b h)) (cond-true (fits m b) (layered m b) m fit)
          ∙ (layer_unfolds g sh.shown m sh.code below b ok_upper.0).rewards h (lower_history h hist)
          ∙ earned_filter (sh.shown.reward h) b.wishes (truths b.nodes (trace_of sh.shown.mask h) (end_of h))
          ∙ (λ i. fold ◌+ℤ◌ (sym start i) (map amount (held i)))

      pub floor_tells : FloorTells m b upper pile p
      floor_tells = record { memory = memory_bit; wishes = wish_bit; labels = label_bit; reward = reward_is }

  bits_on : (fs : List Floor) → SoundFloors fs → BitsTell (piling g fs)
  bits_on fs ok = record {
    site = site_below fs ok;
    floors = λ lower b upper is fit p path.
        subst (λ gs. (p : List ℕ) → Path (piled g gs) p → FloorTells (piled g lower) b upper (piled g gs) p) (sym is) (floor_tells lower b upper (subst SoundFloors is ok) fit) p path;
  }

pub bits_tell : (m : Model) (p : Piling) → Laid m p → BitsTell p
bits_tell m p l = subst BitsTell (laid_is m p l) (bits_on p.base l.lawfully l.grounded p.floors l.sound)
