-- What a plan tells is what it is: the choice for a slot in a listed state by the backward rule (`choice_is`, `choice_told`), and the advice
-- to a walk on its book what the plan as a policy names after the record (`tell_told`, `advice_told`).
use Rattle.std.proofs.Common.{◌≡◌, ℕ, ◌+◌, ◌-◌, ◌*◌, ◌<◌, ◌≤◌, Bool, true, false, cond, ◌&&◌, leb, ltb, List, length, get_or, Some, None, Option, refl, sym, ap, ◌∙◌, ⊎_elim, arith, mul_comm}
use Rattle.std.specs.Prelude.{vec_items}
use Rattle.std.specs.List.{slice_get}
use Rattle.std.proofs.lemmas.Bool.{and_from, and_left, cases_Bool, cond-false, cond-true, leb-true, leb-false, lt-ltb, le-ltb, ltb-true}
use Rattle.std.proofs.lemmas.Nat.{div-mul-add, mod-mul-add, mul-add-lt}
use Rattle.std.proofs.lemmas.Option.{slice_get-get_or}
use Rattle.model.specs.Histories.{History}
use Rattle.model.specs.Models.{Model}
use Rattle.model.proofs.Paths.{some_history}
use Rattle.pilemodel.specs.Piles.{Piling, shown_on}
use Rattle.promise.specs.Corresponding.{book_model, place_in}
use Rattle.promise.specs.WholePlan.{IsPlanOf, advice_by, choice_for, policy_of}
use Rattle.promise.specs.declared.advising.Advice.{Advice}
use Rattle.promise.specs.declared.advising.Advice.TheVariants.{Choose, Tell, Ended}
use Rattle.promise.specs.declared.plans.Plan.{Plan}
use Rattle.walk.specs.Walker.{Walk, standing, choosing, chosen_in, is_choosing}
use Rattle.weighing.specs.Discounts.{discount_of}
use Rattle.weighmodel.specs.Weighings.{Weigh}
use Rattle.worth.specs.Policies.{Policy}
use Rattle.worth.specs.Worths.{choice_of}

module _ (w : Weigh) (pile : Piling) (h : ℕ) (p : Plan) (is : IsPlanOf w pile h p) where
  abbrev m : Model
  m = pile.model

  -- the choice with so many slots left after, in a listed state
  entry : (row state : ℕ) → row < h → state < (book_model m).span → (d : ℕ) → (row * (book_model m).span + state < h * (book_model m).span)
      × (get_or (vec_items p.choices) (row * (book_model m).span + state) d ≡ choice_of w discount_of (book_model m) h row state)
  entry row state low listed d =
      let span = (book_model m).span in
      let place : row * span + state < h * span = omega (arith, mul-add-lt row span state h low listed, mul_comm h span) in
      (place, is.choices (row * span + state) d place ∙ (λ i. choice_of w discount_of (book_model m) h (div-mul-add row span state listed i) (mod-mul-add row span state listed i)))

  pub choice_told : (slot state : ℕ) → slot < h → state < (book_model m).span → slice_get (vec_items p.choices) ((h - slot - 1) * (book_model m).span + state) ≡ choice_for w (book_model m) h slot state
  choice_told slot state before listed =
      let span = (book_model m).span in
      let at = entry (h - slot - 1) state (omega arith) listed 0 in
      slice_get-get_or (vec_items p.choices) ((h - slot - 1) * span + state) 0 (omega (arith, at.0, is.size))
      ∙ ap (λ (a : ℕ). Some a) at.1
      ∙ sym (cond-true (ltb slot h && ltb state span) _ None (and_from (ltb slot h) (ltb state span) (lt-ltb slot h before) (lt-ltb state span listed)))

  -- a history stands at a listed state
  listed_place : (hist : List ℕ) → History pile.base (shown_on pile).offered hist → place_in pile hist < (book_model m).span
  listed_place hist led = ltb-true (place_in pile hist) (book_model m).span ((is.corresponds.in_book is.writable).states hist led)

  -- what the policy names after a history is the choice for the slot of its end; past the horizon there is none
  pub advised : (hist : List ℕ) → History pile.base (shown_on pile).offered hist → choice_for w (book_model m) h (length hist - 1) (place_in pile hist) ≡ cond (leb (length hist) h) (Some (policy_of pile p hist)) None
  advised hist led =
      let span = (book_model m).span in
      let place = place_in pile hist in
      let some = some_history pile.base (shown_on pile).offered hist led in
      let listed = listed_place hist led in
      ⊎_elim
      (λ (t : leb (length hist) h ≡ true).
      let short : length hist ≤ h = leb-true (length hist) h t in
      let before : length hist - 1 < h = omega arith in
      let rows : h - (length hist - 1) - 1 ≡ h - length hist = omega arith in
      let left : p.horizon - length hist ≡ h - length hist = omega (arith, is.slots) in
      let at = entry (h - length hist) place (omega arith) listed 0 in
      cond-true (ltb (length hist - 1) h && ltb place span) _ None (and_from (ltb (length hist - 1) h) (ltb place span) (lt-ltb (length hist - 1) h before) (lt-ltb place span listed))
      ∙ ap (λ k. Some (choice_of w discount_of (book_model m) h k place)) rows
      ∙ ap (λ (a : ℕ). Some a) (sym at.1 ∙ ap (λ k. get_or (vec_items p.choices) (k * span + place) 0) (sym left))
      ∙ sym (cond-true (leb (length hist) h) (Some (policy_of pile p hist)) None t))
      (λ (f : leb (length hist) h ≡ false).
      let past : h < length hist = leb-false (length hist) h f in
      cond-false (ltb (length hist - 1) h && ltb place span) (Some (choice_of w discount_of (book_model m) h (h - (length hist - 1) - 1) place)) None (and_left (ltb (length hist - 1) h) (ltb place span) (le-ltb (length hist - 1) h (omega arith)))
      ∙ sym (cond-false (leb (length hist) h) (Some (policy_of pile p hist)) None f))
      (cases_Bool (leb (length hist) h))

-- with a choice open its outcome is to be told
pub tell_told : (walk : Walk) (π : Policy) (h : ℕ) (hist : List ℕ) (c : Option ℕ) → is_choosing walk ≡ true → chosen_in walk ≡ c → Tell ≡ advice_by π h hist c
tell_told (standing s) π h hist c told same = let z : ◌≡◌ {A = ℕ} 0 1 = cc in absurd (omega arith)
tell_told (choosing s a) π h hist c told same = ap (advice_by π h hist) same

-- a choice as advice
abbrev pub advice_of : Option ℕ → Advice
advice_of None = Ended
advice_of (Some a) = Choose a

advice_of_cond : (b : Bool) (a : ℕ) → advice_of (cond b (Some a) None) ≡ cond b (Choose a) Ended
advice_of_cond true a = refl
advice_of_cond false a = refl

-- with none open it is the choice, if there is one
pub advice_told : (walk : Walk) (π : Policy) (h : ℕ) (hist : List ℕ) (c r : Option ℕ) → is_choosing walk ≡ false → chosen_in walk ≡ c → r ≡ cond (leb (length hist) h) (Some (π hist)) None → advice_of r ≡ advice_by π h hist c
advice_told (standing s) π h hist c r none same is = ap advice_of is ∙ advice_of_cond (leb (length hist) h) (π hist) ∙ ap (advice_by π h hist) same
advice_told (choosing s a) π h hist c r none same is = let z : ◌≡◌ {A = ℕ} 0 1 = cc in absurd (omega arith)
