-- A layer on a lawful model is lawful: `layered_lawful` where the book fits, and `over_lawful` for a book that fits or not, or none.
use Rattle.std.specs.Prelude.{◌≡◌, ℕ, ◌+◌, ◌*◌, ◌^◌, ◌<◌, ◌≤◌, Bool, true, false, ltb, List, [], map, length, get_or, pos, IfSome, Some, None, Option, nat_le, nat_lt, slice_index_or, unsigned_abs}
use Rattle.std.proofs.Common.{inl, inr, sym, refl, ap, ◌∙◌, add-zero, lt_of_lt_of_le, arith, pow_mono}
use Rattle.std.specs.Option.{option_map, is_none}
use Rattle.std.proofs.lemmas.Nat.{pow_pos}
use Rattle.std.proofs.lemmas.List.{get_or-map, length-map}
use Rattle.std.proofs.lemmas.List.Folds.{fold-map}
use Rattle.std.proofs.lemmas.Bool.{cases_Bool, both_ways, and_parts, and_from, and_cases, leb-true, ltb-true, lt-ltb, cond-true, cond-false, cond_both}
use Rattle.model.specs.declared.Outcome.{Outcome}
use Rattle.model.specs.Models.{Model, LawfulStates, LawfulMoves, LawfulShows, LawfulGrounds, Lawful, sizes_of, total}
use Rattle.refusal.specs.declared.Refusal.TheVariants.{NoSuchLabel, BoundPassed, SpanPassed}
use Rattle.refusal.specs.declared.Refusal.{Refusal}
use Rattle.refusal.proofs.Rows.{passed}
use Rattle.wishbook.specs.declared.book.WishBook.{WishBook}
use Rattle.wishbook.specs.Book.{Book}
use Rattle.wishbook.specs.Contents.{contents}
use Rattle.words.specs.Tests.{all}
use Rattle.layermodel.proofs.Books.{kept}
use Rattle.layermodel.specs.Verdicts.{item_held, memory_of, wish_held, bits_of_wishes, earned}
use Rattle.layermodel.specs.Layered.{names_label_below, amounts, labels_fit, bound_fits, span_fits, tests, refusal, fits, under, memory, is_layer_state, verdicts_at, lifted, layered, over}
use Rattle.layermodel.proofs.Sizes.{bits_below, bits_small, mask_grows, earned_within}

-- a book fits where there is no reason to refuse it
pub fit_is : (m : Model) (b : Book) (o : Option Refusal) → o ≡ refusal (sizes_of m) b → fits m b ≡ is_none o
fit_is m b o e = ap is_none (sym e)

-- what a book that fits leaves room for
pub record Room (m : Model) (b : Book) : Type 0 where
  pub named : all (names_label_below m.labels) b.nodes ≡ true
  pub labels : m.labels + length b.wishes ≤ 24
  pub bound : m.bound + amounts b.wishes ≤ 2000
  pub span : m.span ≤ 2 ^ 44

no_refusal : (o : Option Refusal) → is_none o ≡ true → o ≡ None
no_refusal None e = refl
no_refusal (Some r) e = absurd (both_ways false refl e)

pub room : (m : Model) (b : Book) → fits m b ≡ true → Room m b
room m b e =
    let z = sizes_of m in
    let each = passed (tests z b) (no_refusal (refusal z b) e) in
    let labels = and_parts (all (names_label_below m.labels) b.nodes) (nat_le (m.labels + length b.wishes) 24) (each 0 (labels_fit z b, NoSuchLabel) refl) in
    record {
      named = labels.0;
      labels = leb-true (m.labels + length b.wishes) 24 labels.1;
      bound = leb-true (m.bound + amounts b.wishes) 2000 (each 1 (bound_fits z b, BoundPassed) refl);
      span = leb-true m.span (2 ^ 44) (each 2 (span_fits z, SpanPassed) refl);
    }

-- a state below and a memory, as one number and apart again
pub under_packed : (t k : ℕ) → k < 65536 → under (t * 65536 + k) ≡ t
under_packed t k h = omega arith

pub memory_packed : (t k : ℕ) → k < 65536 → memory (t * 65536 + k) ≡ k
memory_packed t k h = omega arith

total_lifted : (m : Model) (b : Book) (s : ℕ) (os : List Outcome) → total (map (lifted m b s) os) ≡ total os
total_lifted m b s os = fold-map (λ n o. n + o.weight) (lifted m b s) 0 os

nowhere : Outcome
nowhere = record { target = 0; weight = 0 }

module _ (m : Model) (b : Book) (law : Lawful m) (few : length b.items ≤ 16) (fit : fits m b ≡ true) where
  r : Room m b
  r = room m b fit

  state_parts : (s : ℕ) → is_layer_state m b s ≡ true → (m.state (under s) ≡ true) × (memory s < 2 ^ length b.items)
  state_parts s e = let p = and_parts (m.state (under s)) (nat_lt (memory s) (2 ^ length b.items)) e in (p.0, ltb-true (memory s) (2 ^ length b.items) p.1)

  packed_state : (t k : ℕ) → m.state t ≡ true → k < 2 ^ length b.items → k < 65536 → is_layer_state m b (t * 65536 + k) ≡ true
  packed_state t k e h low =
      and_from (m.state (under (t * 65536 + k))) (nat_lt (memory (t * 65536 + k)) (2 ^ length b.items))
      (ap m.state (under_packed t k low) ∙ e)
      (ap (λ n. ltb n (2 ^ length b.items)) (memory_packed t k low) ∙ lt-ltb k (2 ^ length b.items) h)

  -- the outcomes in a state, and that there are none elsewhere
  outs_here : (s a : ℕ) → is_layer_state m b s ≡ true → (layered m b).outcomes s a ≡ map (lifted m b s) (m.outcomes (under s) a)
  outs_here s a e = cond-true (is_layer_state m b s) (map (lifted m b s) (m.outcomes (under s) a)) [] e

  outs_nowhere : (s a : ℕ) → is_layer_state m b s ≡ false → (layered m b).outcomes s a ≡ []
  outs_nowhere s a e = cond-false (is_layer_state m b s) (map (lifted m b s) (m.outcomes (under s) a)) [] e

  outs_length : (s a : ℕ) → is_layer_state m b s ≡ true → length ((layered m b).outcomes s a) ≡ length (m.outcomes (under s) a)
  outs_length s a e = ap length (outs_here s a e) ∙ length-map (m.outcomes (under s) a) (lifted m b s)

  -- what an outcome tells: it is in a state, and stands over an outcome below
  outs_state : (s a j : ℕ) → j < length ((layered m b).outcomes s a) → is_layer_state m b s ≡ true
  outs_state s a j h =
      elim (cases_Bool (is_layer_state m b s)) [
        | inl t ↦ t
        | inr f ↦ absurd (omega (arith, ap length (outs_nowhere s a f)))
      ]

  outs_within : (s a j : ℕ) → j < length ((layered m b).outcomes s a) → j < length (m.outcomes (under s) a)
  outs_within s a j h = omega (arith, outs_length s a (outs_state s a j h))

  outs_at : (s a j : ℕ) (d : Outcome) → j < length ((layered m b).outcomes s a) → slice_index_or ((layered m b).outcomes s a) j d ≡ lifted m b s (slice_index_or (m.outcomes (under s) a) j nowhere)
  outs_at s a j d h = ap (λ os. get_or os j d) (outs_here s a (outs_state s a j h)) ∙ get_or-map (lifted m b s) (m.outcomes (under s) a) j nowhere d (outs_within s a j h)

  few_law : (s a : ℕ) → length ((layered m b).outcomes s a) ≤ 8
  few_law s a =
      elim (cases_Bool (is_layer_state m b s)) [
        | inl t ↦ omega (arith, outs_length s a t, law.moves.few (under s) a)
        | inr f ↦ omega (arith, ap length (outs_nowhere s a f))
      ]

  targets_law : (s a j : ℕ) (d : Outcome) → j < length ((layered m b).outcomes s a) → is_layer_state m b (get_or ((layered m b).outcomes s a) j d).target ≡ true
  targets_law s a j d h =
      let o = get_or (m.outcomes (under s) a) j nowhere in
      ap (λ (x : Outcome). is_layer_state m b x.target) (outs_at s a j d h)
      ∙ packed_state o.target (memory_of b.items (verdicts_at m b s)) (law.moves.targets (under s) a j nowhere (outs_within s a j h)) (bits_below (item_held (verdicts_at m b s)) b.items) (bits_small (item_held (verdicts_at m b s)) b.items few)

  apart_law : (s a j k : ℕ) (d : Outcome) → j < length ((layered m b).outcomes s a) → k < length ((layered m b).outcomes s a) → (get_or ((layered m b).outcomes s a) j d).target ≡ (get_or ((layered m b).outcomes s a) k d).target → j ≡ k
  apart_law s a j k d h g e =
      let same : (get_or (m.outcomes (under s) a) j nowhere).target * 65536 + memory_of b.items (verdicts_at m b s) ≡ (get_or (m.outcomes (under s) a) k nowhere).target * 65536 + memory_of b.items (verdicts_at m b s)
      = sym (ap (λ (x : Outcome). x.target) (outs_at s a j d h)) ∙ e ∙ ap (λ (x : Outcome). x.target) (outs_at s a k d g) in
      law.moves.apart (under s) a j k nowhere (outs_within s a j h) (outs_within s a k g) (omega arith)

  weighed_law : (s a j : ℕ) (d : Outcome) → j < length ((layered m b).outcomes s a) → 1 ≤ (get_or ((layered m b).outcomes s a) j d).weight
  weighed_law s a j d h = omega (arith, ap (λ (x : Outcome). x.weight) (outs_at s a j d h), law.moves.weighed (under s) a j nowhere (outs_within s a j h))

  offered_parts : (s a : ℕ) → (layered m b).offered s a ≡ true → (is_layer_state m b s ≡ true) × (m.offered (under s) a ≡ true)
  offered_parts s a e = and_parts (is_layer_state m b s) (m.offered (under s) a) e

  whole_law : (s a : ℕ) → (layered m b).offered s a ≡ true → total ((layered m b).outcomes s a) ≡ 8
  whole_law s a e =
      let p = offered_parts s a e in
      ap total (outs_here s a p.0) ∙ total_lifted m b s (m.outcomes (under s) a) ∙ law.moves.whole (under s) a p.1

  silent_law : (s a : ℕ) → (layered m b).offered s a ≡ false → (layered m b).outcomes s a ≡ []
  silent_law s a e =
      elim (cases_Bool (is_layer_state m b s)) [
        | inl t ↦ elim (and_cases (is_layer_state m b s) (m.offered (under s) a) e) [
          | inl f ↦ absurd (both_ways (is_layer_state m b s) f t)
          | inr f ↦ outs_here s a t ∙ ap (map (lifted m b s)) (law.moves.silent (under s) a f)
        ]
        | inr f ↦ outs_nowhere s a f
      ]

  labelled_law : (s : ℕ) → (layered m b).mask s < 2 ^ (m.labels + length b.wishes)
  labelled_law s =
      cond_both (is_layer_state m b s) (m.mask (under s) + 2 ^ m.labels * bits_of_wishes b.wishes (verdicts_at m b s)) 0 (λ n. n < 2 ^ (m.labels + length b.wishes))
      (λ t. mask_grows m.labels (length b.wishes) (m.mask (under s)) (bits_of_wishes b.wishes (verdicts_at m b s)) (law.shows.labelled (under s)) (bits_below (wish_held (verdicts_at m b s)) b.wishes))
      (λ f. pow_pos (m.labels + length b.wishes))

  bounded_law : (s : ℕ) → unsigned_abs ((layered m b).reward s) ≤ m.bound + amounts b.wishes
  bounded_law s =
      cond_both (is_layer_state m b s) (earned (m.reward (under s)) b.wishes (verdicts_at m b s)) (pos 0) (λ z. unsigned_abs z ≤ m.bound + amounts b.wishes)
      (λ t. omega (arith, earned_within (m.reward (under s)) b.wishes (verdicts_at m b s), law.shows.bounded (under s)))
      (λ f. omega arith)

  states_law : LawfulStates (layered m b).start (layered m b).state (layered m b).span
  states_law = record {
    starts = ap (is_layer_state m b) (sym (add-zero (m.start * 65536))) ∙ packed_state m.start 0 law.states.starts (pow_pos (length b.items)) (omega arith);
    within = λ s e. omega (arith, law.states.within (under s) (state_parts s e).0);
  }

  moves_law : LawfulMoves (layered m b).state (layered m b).offered (layered m b).outcomes (layered m b).actions
  moves_law = record {
    acts = law.moves.acts;
    offers = λ s a e. let p = offered_parts s a e in (p.0, (law.moves.offers (under s) a p.1).1);
    waits = λ s e. and_from (is_layer_state m b s) (m.offered (under s) 0) e (law.moves.waits (under s) (state_parts s e).0);
    some = λ s a e. let p = offered_parts s a e in omega (arith, outs_length s a p.0, law.moves.some (under s) a p.1);
    few = few_law;
    targets = targets_law;
    apart = apart_law;
    weighed = weighed_law;
    whole = whole_law;
    silent = silent_law;
  }

  shows_law : LawfulShows (layered m b).state (layered m b).mask (layered m b).reward (layered m b).labels (layered m b).bound
  shows_law = record {
    labelled = labelled_law;
    narrow = r.labels;
    bounded = bounded_law;
    modest = r.bound;
    no_mask = λ s f. cond-false (is_layer_state m b s) (m.mask (under s) + 2 ^ m.labels * bits_of_wishes b.wishes (verdicts_at m b s)) 0 f;
    no_reward = λ s f. cond-false (is_layer_state m b s) (earned (m.reward (under s)) b.wishes (verdicts_at m b s)) (pos 0) f;
  }

  grounds_law : LawfulGrounds (layered m b).state (layered m b).site
  grounds_law = record {
    grounded = λ s. cond_both (is_layer_state m b s) (m.site (under s)) 0 (λ n. n < 4096) (λ t. law.grounds.grounded (under s)) (λ f. omega arith);
    no_ground = λ s f. cond-false (is_layer_state m b s) (m.site (under s)) 0 f;
  }

  pub layered_lawful : Lawful (layered m b)
  layered_lawful = record { states = states_law; moves = moves_law; shows = shows_law; grounds = grounds_law }

-- whether the book fits or not, or there is none
pub over_lawful : (m : Model) (o : Option Book) → Lawful m → IfSome o (λ b. length b.items ≤ 16) → Lawful (over m o)
over_lawful m None law few = law
over_lawful m (Some b) law few = cond_both (fits m b) (layered m b) m Lawful (λ t. layered_lawful m b law few t) (λ f. law)

-- a wish book has at most 16 items
pub layer_lawful : (m : Model) (o : Option WishBook) → Lawful m → Lawful (over m (option_map contents o))
layer_lawful m None law = law
layer_lawful m (Some w) law = over_lawful m (Some (contents w)) law (kept w).few

-- what a lawful model has room for, where the book fits
module _ (m : Model) (b : Book) (law : Lawful m) (fit : fits m b ≡ true) where
  pub state_room : (s : ℕ) → m.state s ≡ true → s < 2 ^ 44
  state_room s e = omega (arith, law.states.within s e, (room m b fit).span)

  pub target_room : (s a j : ℕ) (d : Outcome) → j < length (m.outcomes s a) → (get_or (m.outcomes s a) j d).target < 2 ^ 44
  target_room s a j d h = state_room (get_or (m.outcomes s a) j d).target (law.moves.targets s a j d h)

  pub label_room : m.labels ≤ 24
  label_room = law.shows.narrow

  -- the wish bits above a mask
  pub mask_room : (s : ℕ) (vs : List Bool) → m.mask s + 2 ^ m.labels * bits_of_wishes b.wishes vs < 2 ^ 24
  mask_room s vs = lt_of_lt_of_le (mask_grows m.labels (length b.wishes) (m.mask s) (bits_of_wishes b.wishes vs) (law.shows.labelled s) (bits_below (wish_held vs) b.wishes)) (pow_mono (room m b fit).labels)

  pub reward_room : (s : ℕ) → unsigned_abs (m.reward s) ≤ 2000
  reward_room s = omega (arith, law.shows.bounded s, law.shows.modest)
