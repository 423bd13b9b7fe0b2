-- The model that a valid rule book means keeps the laws of a site model, of a ground model and of a numbered one.
use Rattle.std.proofs.Common.{◌≡◌, ℕ, ◌+◌, ◌^◌, ◌<◌, ◌≤◌, Bool, true, cond, eqb, ltb, leb, List, [], ◌∷◌, length, get_or, sym, refl, ap, ◌∙◌, subst, inl, inr, zero-add, arith, pow_pos, pow_mono}
use lib.Bits.{bit_and, bit_or, bit_xor}
use Rattle.std.proofs.lemmas.Nat.{or_lt, xor_lt, and_le_r}
use Rattle.std.proofs.lemmas.List.{get_or-map, length-map}
use Rattle.std.proofs.lemmas.Bool.{and_parts, and_from, cases_order, cond_both, cond-true, cond-false, eqb-true, eq-eqb, lt-ltb, ltb-true, leb-true, le-leb}
use Rattle.model.specs.declared.Outcome.{Outcome}
use Rattle.model.specs.Models.{Lawful, Ground, NumberedBy, total as weights}
use Rattle.words.specs.Tests.{all, within}
use Rattle.words.proofs.Tests.{all_at}
use Rattle.rulelayout.specs.declared.Effect.{Effect}
use Rattle.rulelayout.specs.Rule.{Act, Rule, valid, total, good_effect, good_act, good_head, waits}
use Rattle.rulelayout.proofs.OneWord.{head_parts, range_parts, fits_parts, count_parts}
use Rattle.rulelayout.proofs.Faithful.{act_parts}
use Rattle.rulemodel.specs.Meaning.{landing, landings, met, no_act, act_at, is_switch_mask, offers, rule_model}
use Rattle.rulemodel.proofs.Gathering.{targets_kept, total_onto, length-onto, some_landings, all_landings}

-- what a valid book's parts come to

head_good : (b : Rule) → valid b ≡ true → good_head b.switches (length b.acts) b.start ≡ true
head_good b v = (and_parts (good_head b.switches (length b.acts) b.start) _ v).0

pub switches_few : (b : Rule) → valid b ≡ true → (1 ≤ b.switches) × (b.switches ≤ 10)
switches_few b v = let parts = head_parts b.switches (length b.acts) b.start (head_good b v) in (parts.0, parts.1)

pub actions_few : (b : Rule) → valid b ≡ true → (1 ≤ length b.acts) × (length b.acts ≤ 8)
actions_few b v = let parts = head_parts b.switches (length b.acts) b.start (head_good b v) in (parts.2, parts.3)

start_state : (b : Rule) → valid b ≡ true → is_switch_mask b b.start ≡ true
start_state b v =
    (and_parts (within 1 8 (length b.acts)) _ (and_parts (within 1 10 b.switches) _ (head_good b v)).1).1

act_good : (b : Rule) → valid b ≡ true → (a : ℕ) → a < length b.acts → good_act b.switches (act_at b a) ≡ true
act_good b v a h =
    let rest = (and_parts (good_head b.switches (length b.acts) b.start) _ v).1 in
    all_at (good_act b.switches) b.acts a no_act (and_parts (all (good_act b.switches) b.acts) (waits b.acts) rest).0 h

first_free : (acts : List Act) → waits acts ≡ true → ((get_or acts 0 no_act).on ≡ 0) × ((get_or acts 0 no_act).off ≡ 0)
first_free [] e = (refl, refl)
first_free (a ∷ acts) e =
    let parts = and_parts (eqb a.on 0) (eqb a.off 0) e in
    (eqb-true a.on 0 parts.0, eqb-true a.off 0 parts.1)

-- what a good action's parts come to
pub record Good (n : ℕ) (es : List Effect) : Type 0 where
  pub some : 1 ≤ length es
  pub few : length es ≤ 8
  pub each : all (good_effect n) es ≡ true
  pub whole : total es ≡ 8

good_parts : (n : ℕ) (a : Act) → good_act n a ≡ true → Good n a.effects
good_parts n a g =
    let parts = act_parts n a g in
    let count = count_parts n a.on a.off (length a.effects) parts.0 in
    record { some = count.0; few = count.1; each = parts.1; whole = parts.2 }

pub offered_parts : (b : Rule) → valid b ≡ true → (s a : ℕ) → offers b s a ≡ true → Good b.switches (act_at b a).effects
offered_parts b v s a o =
    let here = (and_parts (ltb a (length b.acts)) _ (and_parts (is_switch_mask b s) _ o).1).0 in
    good_parts b.switches (act_at b a) (act_good b v a (ltb-true a (length b.acts) here))

-- an outcome lands in a state, with a weight of 1 at least

effect_parts : (n : ℕ) (e : Effect) → good_effect n e ≡ true → (e.set < 2 ^ n) × (e.clear < 2 ^ n) × (1 ≤ e.weight)
effect_parts n e g =
    let range = range_parts n e.set e.clear e.weight (fits_parts n e.set e.clear e.weight g).0 in
    (ltb-true e.set (2 ^ n) range.0, ltb-true e.clear (2 ^ n) range.1, range.2)

lands_within : (n s : ℕ) (e : Effect) → s < 2 ^ n → good_effect n e ≡ true → landing s e < 2 ^ n
lands_within n s e h g =
    let parts = effect_parts n e g in
    or_lt n (bit_xor (bit_or s e.clear) e.clear) e.set (xor_lt n (bit_or s e.clear) e.clear (or_lt n s e.clear h parts.1) parts.1) parts.0

all_follow : (P Q : Effect → Bool) → ((e : Effect) → P e ≡ true → Q e ≡ true) → (es : List Effect) → all P es ≡ true → all Q es ≡ true
all_follow P Q f [] a = refl
all_follow P Q f (e ∷ es) a =
    let parts = and_parts (P e) (all P es) a in
    and_from (Q e) (all Q es) (f e parts.0) (all_follow P Q f es parts.1)

targets_within : (n s : ℕ) (es : List Effect) → s < 2 ^ n → all (good_effect n) es ≡ true → all (λ (o : Outcome). ltb o.target (2 ^ n)) (landings s es) ≡ true
targets_within n s es h g =
    all_landings (λ (o : Outcome). ltb o.target (2 ^ n)) (λ t v w e. e) s es
    (all_follow (good_effect n) (λ e. ltb (landing s e) (2 ^ n)) (λ e k. lt-ltb (landing s e) (2 ^ n) (lands_within n s e h k)) es g)

weights_some : (n s : ℕ) (es : List Effect) → all (good_effect n) es ≡ true → all (λ (o : Outcome). leb 1 o.weight) (landings s es) ≡ true
weights_some n s es g =
    all_landings (λ (o : Outcome). leb 1 o.weight) (λ t v w e. le-leb 1 (v + w) (omega (arith, leb-true 1 v e))) s es
    (all_follow (good_effect n) (λ e. leb 1 e.weight) (λ e k. le-leb 1 e.weight (effect_parts n e k).2) es g)

targets_apart : (s : ℕ) (es : List Effect) (j k : ℕ) (d : Outcome) → j < length (landings s es) → k < length (landings s es) → (get_or (landings s es) j d).target ≡ (get_or (landings s es) k d).target → j ≡ k
targets_apart s es j k d hj hk e =
    let os = landings s es in
    let apart = (targets_kept s es).once in
    let long = length-map os (λ (o : Outcome). o.target) in
    let at_j = get_or-map (λ (o : Outcome). o.target) os j d d.target hj in
    let at-k = get_or-map (λ (o : Outcome). o.target) os k d d.target hk in
    elim (cases_order j k) [
      | inl same ↦ same
      | inr other ↦ elim other [
        | inl less ↦ absurd (apart j k d.target less (omega arith) (at_j ∙ e ∙ sym at-k))
        | inr more ↦ absurd (apart k j d.target more (omega arith) (at-k ∙ sym e ∙ sym at_j))
      ]
    ]

-- a law of an action's outcomes, where it is offered and where not
module _ (b : Rule) (s a : ℕ) where
  outcomes_both : (P : List Outcome → Type 0) → (offers b s a ≡ true → P (landings s (act_at b a).effects)) → P [] → P ((rule_model b).outcomes s a)
  outcomes_both P there none = cond_both (offers b s a) (landings s (act_at b a).effects) [] P there (λ _. none)

  offered_state : offers b s a ≡ true → s < 2 ^ b.switches
  offered_state o = ltb-true s (2 ^ b.switches) (and_parts (is_switch_mask b s) _ o).0

below_all : (b : Rule) (s : ℕ) → cond (is_switch_mask b s) s 0 < 2 ^ b.switches
below_all b s =
    cond_both (is_switch_mask b s) s 0 (λ (n : ℕ). n < 2 ^ b.switches) (λ e. ltb-true s (2 ^ b.switches) e) (λ e. pow_pos b.switches)

first_met : (s : ℕ) (a : Act) → a.on ≡ 0 → a.off ≡ 0 → met s a ≡ true
first_met s a on off =
    and_from (eqb (bit_and s a.on) a.on) (eqb (bit_and s a.off) 0)
    (eq-eqb (bit_and s a.on) a.on (omega (arith, and_le_r s a.on)))
    (eq-eqb (bit_and s a.off) 0 (omega (arith, and_le_r s a.off)))

pub states_few : (b : Rule) → valid b ≡ true → 2 ^ b.switches ≤ 1024
states_few b v = pow_mono {j = 10} (switches_few b v).1

wait_offered : (b : Rule) → valid b ≡ true → (s : ℕ) → is_switch_mask b s ≡ true → offers b s 0 ≡ true
wait_offered b v s e =
    let rest = (and_parts (good_head b.switches (length b.acts) b.start) _ v).1 in
    let free = first_free b.acts (and_parts (all (good_act b.switches) b.acts) (waits b.acts) rest).1 in
    and_from (is_switch_mask b s) _ e
    (and_from (ltb 0 (length b.acts)) _ (lt-ltb 0 (length b.acts) (actions_few b v).0) (first_met s (act_at b 0) free.0 free.1))

pub rule_lawful : (b : Rule) → valid b ≡ true → Lawful (rule_model b)
rule_lawful b v = record {
  states = record {
    starts = start_state b v;
    within = λ s e. ltb-true s (2 ^ b.switches) e;
  };
  moves = record {
    acts = actions_few b v;
    offers =
        λ s a o.
        let parts = and_parts (is_switch_mask b s) _ o in
        (parts.0, ltb-true a (length b.acts) (and_parts (ltb a (length b.acts)) _ parts.1).0);
    waits = wait_offered b v;
    some =
        λ s a o.
        subst (λ (os : List Outcome). 1 ≤ length os) (sym (cond-true (offers b s a) (landings s (act_at b a).effects) [] o))
        (some_landings s (act_at b a).effects (offered_parts b v s a o).some);
    few =
        λ s a.
        outcomes_both b s a (λ (os : List Outcome). length os ≤ 8)
        (λ o. omega (arith, (length-onto s [] (act_at b a).effects).1, (offered_parts b v s a o).few))
        (omega arith);
    targets =
        λ s a j d.
        outcomes_both b s a (λ (os : List Outcome). j < length os → is_switch_mask b (get_or os j d).target ≡ true)
        (λ o h.
        all_at (λ (w : Outcome). ltb w.target (2 ^ b.switches)) (landings s (act_at b a).effects) j d
        (targets_within b.switches s (act_at b a).effects (offered_state b s a o) (offered_parts b v s a o).each)
        h)
        (λ h. absurd (omega arith));
    apart =
        λ s a j k d.
        outcomes_both b s a
        (λ (os : List Outcome). j < length os → k < length os → (get_or os j d).target ≡ (get_or os k d).target → j ≡ k)
        (λ o. targets_apart s (act_at b a).effects j k d)
        (λ h. absurd (omega arith));
    weighed =
        λ s a j d.
        outcomes_both b s a (λ (os : List Outcome). j < length os → 1 ≤ (get_or os j d).weight)
        (λ o h.
        leb-true 1 _
        (all_at (λ (w : Outcome). leb 1 w.weight) (landings s (act_at b a).effects) j d
        (weights_some b.switches s (act_at b a).effects (offered_parts b v s a o).each)
        h))
        (λ h. absurd (omega arith));
    whole =
        λ s a o.
        ap weights (cond-true (offers b s a) (landings s (act_at b a).effects) [] o)
        ∙ total_onto s [] (act_at b a).effects
        ∙ zero-add (total (act_at b a).effects)
        ∙ (offered_parts b v s a o).whole;
    silent = λ s a o. cond-false (offers b s a) (landings s (act_at b a).effects) [] o;
  };
  shows = record {
    labelled = below_all b;
    narrow = omega (arith, (switches_few b v).1);
    bounded = λ s. omega arith;
    modest = omega arith;
    no_mask = λ s e. cond-false (is_switch_mask b s) s 0 e;
    no_reward = λ s e. refl;
  };
  grounds = record {
    grounded = λ s. omega (arith, below_all b s, states_few b v);
    no_ground = λ s e. cond-false (is_switch_mask b s) s 0 e;
  };
}

pub rule_ground : (b : Rule) → valid b ≡ true → Ground (rule_model b)
rule_ground b v = record { own = λ s e. cond-true (is_switch_mask b s) s 0 e; small = omega (arith, states_few b v) }

pub rule_numbered : (b : Rule) → valid b ≡ true → NumberedBy (rule_model b)
rule_numbered b v = record { below = λ s. refl; small = omega (arith, states_few b v) }
