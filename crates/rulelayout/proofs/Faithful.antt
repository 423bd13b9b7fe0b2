-- The files that are read are just the encodings of valid rule books: `rule_faithful`. For a reader: every draft that reading
-- comes to is good (`good_steps`), and a good draft that ends well is a valid book (`good_valid`).
use Rattle.std.proofs.Common.{◌≡◌, ℕ, ◌+◌, ◌*◌, ◌^◌, ◌<◌, ◌≤◌, IsTrue, Bool, true, false, cond, ◌&&◌, eqb, ltb, List, [], ◌∷◌, ◌++◌, length, Ok, Err, Result, sym, refl, ap, ◌∙◌, subst, inl, inr, arith, lit<}
use Rattle.std.proofs.lemmas.Bool.{and_parts, and_from, eqb-true, eq-eqb, ltb-true, ltb-false, lt-ltb, le-ltb, cases_Bool, cond-true, cond-false}
use Rattle.std.proofs.lemmas.List.{append-nil, append_assoc, flat_map_more, length_push, length-append, length-map, map_push}
use Rattle.refusal.specs.declared.Refusal.{Refusal}
use Rattle.refusal.specs.declared.Refusal.TheVariants.{WrongKind, WrongTotal, NoWait}
use Rattle.words.specs.Words.{kind, end_word}
use Rattle.words.specs.Format.{more, onto, ends, ReadsBack, Faithful}
use Rattle.words.specs.Tests.{all}
use Rattle.words.proofs.Fields.{kind_put}
use Rattle.words.proofs.Tests.{all_push, check_more, check_ends, check_passed, require_ok, require_passed, onto_more, onto_ends}
use Rattle.words.proofs.Reading.{places_right}
use Rattle.words.proofs.Encoding.{only_encodings, Passes, passes_append, reads_file}
use Rattle.rulelayout.specs.declared.Effect.{Effect}
use Rattle.rulelayout.specs.declared.RuleHead.{RuleHead}
use Rattle.rulelayout.specs.declared.Masks.{Masks}
use Rattle.rulelayout.specs.Rule.{Act, Rule, total, fits, good_effect, good_act, good_head, waits, valid}
use Rattle.rulelayout.specs.Layout.{word_of_head, action_word, effect_word, effect_words, words_of_act, act_words, rule_words, head_of, masks_of, Draft, blank, listing, inside, whole, after_acts, act_of, effect_of, filled, read_word, rule_of, whole_rule, rule_format, written, Begun, Good}
use Rattle.rulelayout.proofs.OneWord.{head_only, head_parts, head_low, head_back, masks_only, masks_low, masks_back, count_parts}

-- one word on: the draft is good, and the word is added to those read
abbrev Steps : Draft → ℕ → Draft → Type 0
Steps s w t = Good t × (written t ≡ written s ++ (w ∷ []))

carry : (s : Draft) (w : ℕ) (u t : Draft) → more u ≡ more t → Steps s w u → Steps s w t
carry s w u t e h = let same : u ≡ t = cc in subst (λ (x : Draft). Steps s w x) same h

listed_good : (h : RuleHead) (acts : List Act) (b : Bool) → ltb (length acts) h.actions ≡ b → Begun h acts → length acts ≤ h.actions → Good (cond b (listing h acts) (whole h acts)) × (written (cond b (listing h acts) (whole h acts)) ≡ word_of_head h.switches h.actions h.start ∷ act_words acts)
listed_good h acts true e begun few = ((begun, ltb-true _ _ e), refl)
listed_good h acts false e begun few = ((begun, omega (arith, ltb-false (length acts) h.actions e)), refl)

module _ (h : RuleHead) (acts : List Act) (m : Masks) (es : List Effect) (w : ℕ) (e : Masks) (good : Good (inside h acts m es))
    (fit : fits h.switches e.first e.second e.count ≡ true) (is : w ≡ effect_word (effect_of e)) where
  abbrev es' : List Effect
  es' = es ++ (effect_of e ∷ [])

  all_good : all (good_effect h.switches) es' ≡ true
  all_good = all_push (good_effect h.switches) es (effect_of e) good.3 fit

  effects_then : effect_words es' ≡ effect_words es ++ (w ∷ [])
  effects_then = map_push effect_word es (effect_of e) ∙ ap (λ x. effect_words es ++ (x ∷ [])) (sym is)

  abbrev first_words : List ℕ
  first_words = word_of_head h.switches h.actions h.start ∷ act_words acts

  written_then : first_words ++ (action_word m.first m.second m.count ∷ effect_words es') ≡ written (inside h acts m es) ++ (w ∷ [])
  written_then =
      ap (λ l. first_words ++ (action_word m.first m.second m.count ∷ l)) effects_then
      ∙ sym (append_assoc first_words (action_word m.first m.second m.count ∷ effect_words es) (w ∷ []))

  last_effect : (t : Draft) → length es' ≡ m.count → total es' ≡ 8 → t ≡ after_acts h (acts ++ (act_of m es' ∷ [])) → Steps (inside h acts m es) w t
  last_effect t full eight at =
      let acts' = acts ++ (act_of m es' ∷ []) in
      let one : good_act h.switches (act_of m es') ≡ true =
      and_from (fits h.switches m.first m.second (length es')) (all (good_effect h.switches) es' && eqb (total es') 8)
      (ap (fits h.switches m.first m.second) full ∙ good.2)
      (and_from (all (good_effect h.switches) es') (eqb (total es') 8) all_good (eq-eqb (total es') 8 eight)) in
      let begun : Begun h acts' = (good.0.0, all_push (good_act h.switches) acts (act_of m es') good.0.1 one) in
      let few : length acts' ≤ h.actions = omega (arith, length_push acts (act_of m es'), good.1) in
      let told = listed_good h acts' (ltb (length acts') h.actions) refl begun few in
      subst (λ (x : Draft). Steps (inside h acts m es) w x) (sym at) (
        told.0,
        told.1
            ∙ ap (λ l. word_of_head h.switches h.actions h.start ∷ l) (sym (flat_map_more words_of_act [] acts (act_of m es')) ∙ ap (λ n. act_words acts ++ (action_word m.first m.second n ∷ effect_words es')) full)
            ∙ written_then,
      )

  effect_steps : (t : Draft) → filled h acts m es' ≡ more t → Steps (inside h acts m es) w t
  effect_steps t e' =
      elim (cases_Bool (ltb (length es') m.count)) [
        | inl b ↦
            carry (inside h acts m es) w (inside h acts m es') t (sym (cond-true (ltb (length es') m.count) _ _ b) ∙ e')
            ((good.0, good.1, good.2, all_good, ltb-true (length es') m.count b), written_then)
        | inr b ↦
            let passed = check_more (eqb (total es') 8) WrongTotal (more (after_acts h (acts ++ (act_of m es' ∷ [])))) t (sym (cond-false (ltb (length es') m.count) (more (inside h acts m es')) _ b) ∙ e') in
            let full : length es' ≡ m.count = omega (arith, ltb-false (length es') m.count b, length_push es (effect_of e), good.4) in
            last_effect t full (eqb-true (total es') 8 passed.0) (cc passed.1)
      ]

pub steps : (s t : Draft) (w : ℕ) → Good s → read_word s w ≡ more t → Steps s w t
unfolding read_word
steps blank t w good e =
    let (h, (is, at)) = onto_more (head_of w) (λ h. more (listing h [])) t e in
    let told = head_only w h is in
    carry blank w (listing h []) t at (((told.0, refl), (head_parts h.switches h.actions h.start told.0).2), ap (λ x. x ∷ []) (sym told.1))
steps (listing h acts) t w good e =
    let (m, (is, at)) = onto_more (masks_of 7 h.switches w) (λ m. more (inside h acts m [])) t e in
    let told = masks_only 7 h.switches w m is in
    carry (listing h acts) w (inside h acts m []) t at (
      (good.0, good.1, told.0, refl, (count_parts h.switches m.first m.second m.count told.0).0),
      ap (λ x. word_of_head h.switches h.actions h.start ∷ (act_words acts ++ (x ∷ []))) (sym told.1),
    )
steps (inside h acts m es) t w good e =
    let (x, (is, at)) = onto_more (masks_of 8 h.switches w) (λ e. filled h acts m (es ++ (effect_of e ∷ []))) t e in
    let told = masks_only 8 h.switches w x is in
    effect_steps h acts m es w x good told.0 told.1 t at
steps (whole h acts) t w good e =
    let passed = check_more (eqb (kind w) 15) WrongKind ends t e in
    absurd (cc passed.1)

-- every draft that reading comes to is good
pub good_steps : (s t : Draft) (w : ℕ) → Good s → read_word s w ≡ more t → Good t
good_steps s t w good e = (steps s t w good e).0

ends_well : (s : Draft) (w : ℕ) → Good s → read_word s w ≡ ends → kind w ≡ 15
unfolding read_word
ends_well blank w good e = let (h, (is, at)) = onto_ends (head_of w) (λ h. more (listing h [])) e in absurd (cc at)
ends_well (listing h acts) w good e = let (m, (is, at)) = onto_ends (masks_of 7 h.switches w) (λ m. more (inside h acts m [])) e in absurd (cc at)
ends_well (inside h acts m es) w good e =
    let (x, (is, at)) = onto_ends (masks_of 8 h.switches w) (λ e. filled h acts m (es ++ (effect_of e ∷ []))) e in
    let es' = es ++ (effect_of x ∷ []) in
    elim (cases_Bool (ltb (length es') m.count)) [
      | inl b ↦ absurd (cc (sym (cond-true (ltb (length es') m.count) (more (inside h acts m es')) _ b) ∙ at))
      | inr b ↦ absurd (cc (check_ends (eqb (total es') 8) WrongTotal (more (after_acts h (acts ++ (act_of m es' ∷ [])))) (sym (cond-false (ltb (length es') m.count) (more (inside h acts m es')) _ b) ∙ at)).1)
    ]
ends_well (whole h acts) w good e = eqb-true (kind w) 15 (check_ends (eqb (kind w) 15) WrongKind ends e).0

no_book : {b : Rule} {r : Refusal} → ◌≡◌ {A = Result Rule Refusal} (Err r) (Ok b) → ⊥
no_book e = let z : ◌≡◌ {A = ℕ} 0 1 = cc in omega arith

finishes : (s : Draft) (b : Rule) → Good s → whole_rule s ≡ Ok b → (valid b ≡ true) × (written s ≡ rule_words b)
unfolding whole_rule
finishes blank b good e = absurd (no_book e)
finishes (listing h acts) b good e = absurd (no_book e)
finishes (inside h acts m es) b good e = absurd (no_book e)
finishes (whole h acts) b good e =
    let passed = require_ok (waits acts) NoWait (Ok (rule_of h acts)) b e in
    let is : rule_of h acts ≡ b = cc passed.1 in
    let head : good_head h.switches (length acts) h.start ≡ true = ap (λ n. good_head h.switches n h.start) good.1 ∙ good.0.0 in
    subst (λ (x : Rule). (valid x ≡ true) × (written (whole h acts) ≡ rule_words x)) is (
      and_from (good_head h.switches (length acts) h.start) (all (good_act h.switches) acts && waits acts) head (and_from (all (good_act h.switches) acts) (waits acts) good.0.1 passed.0),
      ap (λ n. word_of_head h.switches n h.start ∷ act_words acts) (sym good.1),
    )

-- a good draft that ends well is a valid book
pub good_valid : (s : Draft) (b : Rule) → Good s → whole_rule s ≡ Ok b → valid b ≡ true
good_valid s b good e = (finishes s b good e).0

-- the way of a valid book through the format

-- what a good action comes to
pub act_parts : (switches : ℕ) (a : Act) → good_act switches a ≡ true → (fits switches a.on a.off (length a.effects) ≡ true) × (all (good_effect switches) a.effects ≡ true) × (total a.effects ≡ 8)
act_parts switches a good =
    let one = and_parts (fits switches a.on a.off (length a.effects)) (all (good_effect switches) a.effects && eqb (total a.effects) 8) good in
    let two = and_parts (all (good_effect switches) a.effects) (eqb (total a.effects) 8) one.1 in
    (one.0, two.0, eqb-true (total a.effects) 8 two.1)

module _ (h : RuleHead) (few : h.switches ≤ 10) where
  module _ (acts : List Act) (m : Masks) where
    effect_read : (done : List Effect) (e : Effect) → good_effect h.switches e ≡ true → read_word (inside h acts m done) (effect_word e) ≡ filled h acts m (done ++ (e ∷ []))
    unfolding read_word
    effect_read done e good = ap (λ x. onto x (λ e. filled h acts m (done ++ (effect_of e ∷ [])))) (masks_back 8 h.switches e.set e.clear e.weight (lit< tt) few good)

    pub effects_pass : (done : List Effect) (e : Effect) (rest : List Effect) → all (good_effect h.switches) (e ∷ rest) ≡ true → length (done ++ (e ∷ rest)) ≡ m.count → total (done ++ (e ∷ rest)) ≡ 8 → Passes rule_format (inside h acts m done) (effect_words (e ∷ rest)) (after_acts h (acts ++ (act_of m (done ++ (e ∷ rest)) ∷ [])))
    effects_pass done e [] good full eight =
        let es' = done ++ (e ∷ []) in
        let one = and_parts (good_effect h.switches e) true good in (
          after_acts h (acts ++ (act_of m es' ∷ [])),
          (
            effect_read done e one.0
                ∙ cond-false (ltb (length es') m.count) (more (inside h acts m es')) _ (le-ltb (length es') m.count (omega (arith, full)))
                ∙ check_passed (eqb (total es') 8) WrongTotal (more (after_acts h (acts ++ (act_of m es' ∷ [])))) (eq-eqb (total es') 8 eight),
            (masks_low 8 h.switches e.set e.clear e.weight (lit< tt) few one.0, refl),
          ),
        )
    effects_pass done e (f ∷ rest) good full eight =
        let es' = done ++ (e ∷ []) in
        let one = and_parts (good_effect h.switches e) (all (good_effect h.switches) (f ∷ rest)) good in
        let same : es' ++ (f ∷ rest) ≡ done ++ (e ∷ (f ∷ rest)) = append_assoc done (e ∷ []) (f ∷ rest) in
        let less : length es' < m.count = omega (arith, full, ap length same, length-append es' (f ∷ rest)) in
        let later = effects_pass es' f rest one.1 (ap length same ∙ full) (ap total same ∙ eight) in (
          inside h acts m es',
          (
            effect_read done e one.0 ∙ cond-true (ltb (length es') m.count) (more (inside h acts m es')) _ (lt-ltb (length es') m.count less),
            (
              masks_low 8 h.switches e.set e.clear e.weight (lit< tt) few one.0,
              subst (λ (l : List Effect). Passes rule_format (inside h acts m es') (effect_words (f ∷ rest)) (after_acts h (acts ++ (act_of m l ∷ [])))) same later,
            ),
          ),
        )

    -- some outcomes of an action lead to more
    pub effects_lead : (done rest : List Effect) → all (good_effect h.switches) rest ≡ true → length done + length rest < m.count → Passes rule_format (inside h acts m done) (effect_words rest) (inside h acts m (done ++ rest))
    effects_lead done [] good less = ap (inside h acts m) (sym (append-nil done))
    effects_lead done (e ∷ rest) good less =
        let es' = done ++ (e ∷ []) in
        let one = and_parts (good_effect h.switches e) (all (good_effect h.switches) rest) good in
        let same : es' ++ rest ≡ done ++ (e ∷ rest) = append_assoc done (e ∷ []) rest in (
          inside h acts m es',
          (
            effect_read done e one.0 ∙ cond-true (ltb (length es') m.count) (more (inside h acts m es')) _ (lt-ltb (length es') m.count (omega (arith, length_push done e))),
            (
              masks_low 8 h.switches e.set e.clear e.weight (lit< tt) few one.0,
              subst (λ (l : List Effect). Passes rule_format (inside h acts m es') (effect_words rest) (inside h acts m l)) same (effects_lead es' rest one.1 (omega (arith, length_push done e))),
            ),
          ),
        )

  -- an action's word opens it
  pub action_step : (acts : List Act) (m : Masks) → fits h.switches m.first m.second m.count ≡ true → (read_word (listing h acts) (action_word m.first m.second m.count) ≡ more (inside h acts m [])) × (action_word m.first m.second m.count < 2 ^ 32)
  unfolding read_word
  action_step acts m good = (
    ap (λ x. onto x (λ m. more (inside h acts m []))) (masks_back 7 h.switches m.first m.second m.count (lit< tt) few good),
    masks_low 7 h.switches m.first m.second m.count (lit< tt) few good,
  )

  abbrev headed : Act → Masks
  headed a = record { first = a.on; second = a.off; count = length a.effects }

  pub all_effects_pass : (acts : List Act) (on off : ℕ) (es : List Effect) → good_act h.switches (record { on = on; off = off; effects = es }) ≡ true → Passes rule_format (inside h acts (record { first = on; second = off; count = length es }) []) (effect_words es) (after_acts h (acts ++ (record { on = on; off = off; effects = es } ∷ [])))
  all_effects_pass acts on off [] good = let parts = act_parts h.switches (record { on = on; off = off; effects = [] }) good in absurd (omega (arith, parts.2))
  all_effects_pass acts on off (e ∷ es) good =
      let parts = act_parts h.switches (record { on = on; off = off; effects = e ∷ es }) good in
      effects_pass acts (record { first = on; second = off; count = length (e ∷ es) }) [] e es parts.1 refl parts.2

  act_passes : (acts : List Act) (a : Act) → good_act h.switches a ≡ true → Passes rule_format (listing h acts) (words_of_act a) (after_acts h (acts ++ (a ∷ [])))
  act_passes acts a good =
      let parts = act_parts h.switches a good in
      let opens = action_step acts (headed a) parts.0 in
      (inside h acts (headed a) [], (opens.0, (opens.1, all_effects_pass acts a.on a.off a.effects good)))

  pub listed_more : (acts : List Act) → length acts < h.actions → after_acts h acts ≡ listing h acts
  listed_more acts less = cond-true (ltb (length acts) h.actions) _ _ (lt-ltb (length acts) h.actions less)

  pub listed_all : (acts : List Act) → length acts ≡ h.actions → after_acts h acts ≡ whole h acts
  listed_all acts full = cond-false (ltb (length acts) h.actions) _ _ (le-ltb (length acts) h.actions (omega (arith, full)))

  -- some actions lead to what is due after more
  pub acts_pass : (done rest : List Act) → all (good_act h.switches) rest ≡ true → length done + length rest ≤ h.actions → Passes rule_format (after_acts h done) (act_words rest) (after_acts h (done ++ rest))
  acts_pass done [] good few = ap (after_acts h) (sym (append-nil done))
  acts_pass done (a ∷ rest) good few =
      let one = and_parts (good_act h.switches a) (all (good_act h.switches) rest) good in
      let same : (done ++ (a ∷ [])) ++ rest ≡ done ++ (a ∷ rest) = append_assoc done (a ∷ []) rest in
      passes_append rule_format (words_of_act a) (act_words rest) (after_acts h done) (after_acts h (done ++ (a ∷ []))) (after_acts h (done ++ (a ∷ rest)))
      (subst (λ (x : Draft). Passes rule_format x (words_of_act a) (after_acts h (done ++ (a ∷ [])))) (sym (listed_more done (omega arith))) (act_passes done a one.0))
      (subst (λ (l : List Act). Passes rule_format (after_acts h (done ++ (a ∷ []))) (act_words rest) (after_acts h l)) same (acts_pass (done ++ (a ∷ [])) rest one.1 (omega (arith, length_push done a))))

  all_acts_pass : (acts : List Act) → 1 ≤ h.actions → all (good_act h.switches) acts ≡ true → length acts ≡ h.actions → Passes rule_format (listing h []) (act_words acts) (whole h acts)
  all_acts_pass acts some good full =
      subst (λ (x : Draft). Passes rule_format x (act_words acts) (whole h acts)) (listed_more [] some)
      (subst (λ (x : Draft). Passes rule_format (after_acts h []) (act_words acts) x) (listed_all acts full) (acts_pass [] acts good (omega (arith, full))))

act_words_length : (switches : ℕ) (acts : List Act) → all (good_act switches) acts ≡ true → length (act_words acts) ≤ 9 * length acts
act_words_length switches [] good = omega arith
act_words_length switches (a ∷ acts) good =
    let one = and_parts (good_act switches a) (all (good_act switches) acts) good in
    let parts = act_parts switches a one.0 in
    omega (arith, act_words_length switches acts one.1, count_parts switches a.on a.off (length a.effects) parts.0, length-append (effect_words a.effects) (act_words acts), length-map a.effects effect_word)

-- the head leads to the first action
pub head_step : (h : RuleHead) → good_head h.switches h.actions h.start ≡ true → (read_word blank (word_of_head h.switches h.actions h.start) ≡ more (listing h [])) × (word_of_head h.switches h.actions h.start < 2 ^ 32)
unfolding read_word
head_step h good = (ap (λ x. onto x (λ h. more (listing h []))) (head_back h.switches h.actions h.start good), head_low h.switches h.actions h.start good)

reads_back : ReadsBack rule_format (λ b. IsTrue (valid b)) rule_words
unfolding read_word whole_rule
reads_back b good =
    let one = and_parts (good_head b.switches (length b.acts) b.start) (all (good_act b.switches) b.acts && waits b.acts) good in
    let two = and_parts (all (good_act b.switches) b.acts) (waits b.acts) one.1 in
    let parts = head_parts b.switches (length b.acts) b.start one.0 in
    let h : RuleHead = record { switches = b.switches; actions = length b.acts; start = b.start } in
    let short : length (rule_words b) < 2 ^ 28 = omega (arith, parts.3, act_words_length b.switches b.acts two.0) in
    let opens = head_step h one.0 in
    reads_file rule_format (rule_words b) (whole h b.acts) b (listing h [], (opens.0, (opens.1, all_acts_pass h parts.1 b.acts parts.2 two.0 refl)))
    short
    (check_passed (eqb (kind (end_word (length (rule_words b)))) 15) WrongKind ends (eq-eqb (kind (end_word (length (rule_words b)))) 15 (kind_put (length (rule_words b)) 15 short)))
    (require_passed (waits b.acts) NoWait (Ok (rule_of h b.acts)) two.1)

-- the three laws of the format
pub rule_faithful : Faithful rule_format (λ b. IsTrue (valid b)) rule_words
rule_faithful = record {
  places = places_right rule_format;
  back = reads_back;
  only = only_encodings rule_format (λ b. IsTrue (valid b)) rule_words Good written (λ s t w low. steps s t w) (λ s w low. ends_well s w) finishes tt refl;
}
