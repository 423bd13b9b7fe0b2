-- The refusals of the rule book's layout are right.
use Rattle.std.proofs.Common.{◌≡◌, ℕ, ◌<◌, ◌≤◌, true, List, [], ◌∷◌, length, refl, subst, arith, rules}
use Rattle.std.proofs.lemmas.List.{length_push}
use Rattle.words.specs.Words.{kind}
use Rattle.words.specs.Format.{ends}
use Rattle.words.specs.Refusing.{word_tests, book_tests, first_not_passed, RefusesRightly}
use Rattle.words.proofs.Encoding.{Passes, passes_append}
use Rattle.words.proofs.Refusing.{refused, why_not, refuses_rightly}
use Rattle.rulelayout.specs.declared.RuleHead.{RuleHead}
use Rattle.rulelayout.specs.Rule.{Act}
use Rattle.rulelayout.specs.Layout.{word_of_head, action_word, effect_words, act_words, Draft, blank, listing, inside, whole, after_acts, read_word, whole_rule, rule_format, written, Begun, Good}
use Rattle.rulelayout.specs.WordTests.{may_end, passes, closes}
use Rattle.rulelayout.proofs.Faithful.{steps, effects_lead, action_step, listed_more, listed_all, acts_pass, head_step}
use Rattle.rulelayout.proofs.OneWord.{head_parts}

tested : (d : Draft) (w : ℕ) → Good d → refused (read_word d w) ≡ first_not_passed word_tests (passes d w)
unfolding read_word
tested blank w g = search rules
tested (listing h acts) w g = search rules
tested (inside h acts m es) w g = search (rules, length_push es)
tested (whole h acts) w g = search rules

ends_where : (d : Draft) (w : ℕ) → Good d → read_word d w ≡ ends → (may_end d ≡ true) × (kind w ≡ 15)
unfolding read_word
ends_where blank w g e = search rules
ends_where (listing h acts) w g e = search rules
ends_where (inside h acts m es) w g e = search rules
ends_where (whole h acts) w g e = search rules

end_reads : (d : Draft) (w : ℕ) → Good d → may_end d ≡ true → kind w ≡ 15 → read_word d w ≡ ends
unfolding read_word
end_reads blank w g m e = search rules
end_reads (listing h acts) w g m e = search rules
end_reads (inside h acts n es) w g m e = search rules
end_reads (whole h acts) w g m e = search rules

judged : (d : Draft) → Good d → may_end d ≡ true → why_not (whole_rule d) ≡ first_not_passed book_tests (closes d)
unfolding whole_rule
judged blank g e = search rules
judged (listing h acts) g e = search rules
judged (inside h acts m es) g e = search rules
judged (whole h acts) g e = search rules

-- the words of a draft lead to it

module _ (h : RuleHead) (acts : List Act) (begun : Begun h acts) where
  acts_lead : length acts ≤ h.actions → Passes rule_format blank (word_of_head h.switches h.actions h.start ∷ act_words acts) (after_acts h acts)
  acts_lead few =
      let parts = head_parts h.switches h.actions h.start begun.0 in
      let opens = head_step h begun.0 in
      (listing h [], (opens.0, (opens.1, subst (λ (x : Draft). Passes rule_format x (act_words acts) (after_acts h acts)) (listed_more h parts.1 [] parts.2) (acts_pass h parts.1 [] acts begun.1 (omega arith)))))

  action_due : length acts < h.actions → Passes rule_format blank (word_of_head h.switches h.actions h.start ∷ act_words acts) (listing h acts)
  action_due less =
      let parts = head_parts h.switches h.actions h.start begun.0 in
      subst (λ (x : Draft). Passes rule_format blank (word_of_head h.switches h.actions h.start ∷ act_words acts) x) (listed_more h parts.1 acts less) (acts_lead (omega arith))

leads : (d : Draft) → Good d → Passes rule_format blank (written d) d
leads blank g = refl
leads (listing h acts) g = action_due h acts g.0 g.1
leads (inside h acts m es) g =
    let few = (head_parts h.switches h.actions h.start g.0.0).1 in
    let opens = action_step h few acts m g.2 in
    passes_append rule_format (word_of_head h.switches h.actions h.start ∷ act_words acts) (action_word m.first m.second m.count ∷ effect_words es) blank (listing h acts) (inside h acts m es)
    (action_due h acts g.0 g.1)
    (inside h acts m [], (opens.0, (opens.1, effects_lead h few acts m [] es g.3 (omega (arith, g.4)))))
leads (whole h acts) g =
    let few = (head_parts h.switches h.actions h.start g.0.0).1 in
    subst (λ (x : Draft). Passes rule_format blank (written (whole h acts)) x) (listed_all h few acts g.1) (acts_lead h acts g.0 (omega (arith, g.1)))

-- the refusals of the rule book's layout are right
pub rule_refuses : RefusesRightly rule_format Good written may_end passes closes
rule_refuses = refuses_rightly rule_format Good written (λ s t w. steps s t w) tt refl leads may_end passes closes tested ends_where end_reads judged
