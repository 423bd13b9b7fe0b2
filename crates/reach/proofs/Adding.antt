-- Codes are entered one after another, and what a refused one says of the room.
use Rattle.std.proofs.Common.{◌≡◌, ℕ, zero, suc, ◌+◌, ◌-◌, ◌<◌, ◌≤◌, eqb, List, [], ◌∷◌, ◌++◌, length, get_or, take, drop, sym, refl, ap, ◌∙◌, subst, Ok, Err, Some, None, Option, arith}
use Rattle.std.proofs.lemmas.List.{length-take-le, length_push, take-append-drop, drop_more, map-append, map_more}
use Rattle.refusal.specs.declared.Refusal.{Refusal}
use Rattle.refusal.specs.declared.Refusal.TheVariants.{TooManyStates}
use Rattle.std.specs.declared.cmp.PartialEq as equality
use Rattle.register.specs.declared.Key as key
use Rattle.register.specs.declared.Register.{Register}
use Rattle.register.specs.Register.{keys_of}
use Rattle.model.specs.declared.Outcome.{Outcome}
use Rattle.model.specs.Histories.{targets_of}
use Rattle.model.specs.Models.{Model, Lawful}
use Rattle.register.specs.Keys.{place_of, enter, enter_all, Entered}
use Rattle.register.proofs.Counting.{drop_further}
use Rattle.register.proofs.Keys.{enter_both, enter_new, enter-length, enter_all-append, enter_all-length}
use Rattle.reach.specs.Adding.{Added, Onto, room_in}
use Rattle.reach.specs.Reached.{ListsReached, Searched}
use Rattle.reach.specs.Search.{targets_below, leads_to, listed_after, codes_of}
use Rattle.reach.proofs.Turns.{listed_next, listed_within, listed_complete}
use Rattle.reach.proofs.Searching.{search_lists, search_exceeds}

-- several keys more
pub added_all : (held now' after ks js : List ℕ) → now' ≡ enter_all eqb held ks → after ≡ enter_all eqb now' js → after ≡ enter_all eqb held (ks ++ js)
added_all held now' after ks js e f = f ∙ ap (λ l. enter_all eqb l js) e ∙ sym (enter_all-append eqb held ks js)

module _ {k : key.Ghosts ℕ} {e : equality.Ghosts ℕ} where
  pub length-keys_of : (c : Register ℕ k e) → length (keys_of c) ≡ c.len
  length-keys_of c = length-take-le c.len c.keys.now c.fits

  pub onto_self : (c : Register ℕ k e) → Onto c c
  onto_self c = record { more = omega arith; few = λ l. l; rest = refl; room = refl; lent = refl }

  pub onto_both : (a b c : Register ℕ k e) → Onto a b → Onto b c → Onto a c
  onto_both a b c ab bc = record {
    more = omega (arith, ab.more, bc.more);
    few = λ l. bc.few (ab.few l);
    rest = bc.rest ∙ drop_further b.keys.now a.keys.now b.len c.len bc.more ab.rest;
    room = bc.room ∙ ab.room;
    lent = bc.lent ∙ ab.lent;
  }

  -- codes added after the register was emptied
  pub cleared_onto : (a b x : Register ℕ k e) → b.len ≡ 0 → b.keys.now ≡ a.keys.now → b.keys.ghost_name ≡ a.keys.ghost_name → Onto b x → (drop x.len x.keys.now ≡ drop x.len a.keys.now) × (length x.keys.now ≡ length a.keys.now) × (x.keys.ghost_name ≡ a.keys.ghost_name)
  cleared_onto a b x empty same lent onto = (onto.rest ∙ ap (drop x.len) same, onto.room ∙ ap length same, onto.lent ∙ lent)

  -- an emptied register holds no code
  pub cleared_none : (c : Register ℕ k e) → c.len ≡ 0 → keys_of c ≡ []
  cleared_none c e = ap (λ n. take n c.keys.now) e

  -- more codes, after those that were added
  pub added_on : (a b c : Register ℕ k e) (ks js : List ℕ) → keys_of b ≡ enter_all eqb (keys_of a) ks → Added js b c (Ok tt) → Added (ks ++ js) a c (Ok tt)
  added_on a b c ks js held more = added_all (keys_of a) (keys_of b) (keys_of c) ks js held more

  -- or some that find no room, whatever was to follow
  pub added_over : (a b c : Register ℕ k e) (ks js rest : List ℕ) (r : Refusal) → keys_of b ≡ enter_all eqb (keys_of a) ks → length b.keys.now ≡ length a.keys.now → Added js b c (Err r) → Added (ks ++ (js ++ rest)) a c (Err r)
  added_over a b c ks js rest r held room over =
      let all : enter_all eqb (keys_of a) (ks ++ (js ++ rest)) ≡ enter_all eqb (enter_all eqb (keys_of b) js) rest =
      enter_all-append eqb (keys_of a) ks (js ++ rest)
      ∙ ap (λ l. enter_all eqb l (js ++ rest)) (sym held)
      ∙ enter_all-append eqb (keys_of b) js rest in
      (over.0, omega (arith, over.1, ap length all, enter_all-length eqb (enter_all eqb (keys_of b) js) rest, room))

-- a code that stands at the limit is one too many
pub entered_over : (held : List ℕ) (code : ℕ) → 4096 ≤ place_of eqb code held → 4096 < length (enter eqb code held)
entered_over held code l =
    enter_both eqb code held (λ after. 4096 < length after)
    (λ there. omega arith)
    (λ new. omega (arith, length_push held code))

-- the targets of outcomes, up to one and from it on
pub targets_more : (os : List Outcome) (i : ℕ) (d : Outcome) → i < length os → targets_of (take (i + 1) os) ≡ targets_of (take i os) ++ ((get_or os i d).target ∷ [])
targets_more os i d l = map_more (λ o. o.target) os i d l

pub targets_split : (os : List Outcome) (i : ℕ) (d : Outcome) → i < length os → targets_of os ≡ targets_of (take i os) ++ ((get_or os i d).target ∷ targets_of (drop (i + 1) os))
targets_split os i d l =
    ap targets_of (sym (take-append-drop i os))
    ∙ map-append (λ o. o.target) (take i os) (drop i os)
    ∙ ap (λ r. targets_of (take i os) ++ targets_of r) (drop_more os i d l)

-- the targets of more actions come to no less
below_grows : (held : List ℕ) (m : Model) (s a b : ℕ) → length (enter_all eqb held (targets_below m s a)) ≤ length (enter_all eqb held (targets_below m s (b + a)))
below_grows held m s a zero =
    let same : zero + a ≡ a = omega arith in
    omega (arith, ap (λ n. length (enter_all eqb held (targets_below m s n))) same)
below_grows held m s a (suc b) =
    let next : suc b + a ≡ suc (b + a) = omega arith in
    omega (
      arith,
      ap (λ n. length (enter_all eqb held (targets_below m s n))) next,
      below_grows held m s a b,
      ap length (enter_all-append eqb held (targets_below m s (b + a)) (targets_of (m.outcomes s (b + a)))),
      enter_all-length eqb (enter_all eqb held (targets_below m s (b + a))) (targets_of (m.outcomes s (b + a))),
    )

-- one action's targets that find no room
pub over_action : (held now' : List ℕ) (m : Model) (s a room : ℕ) → a < m.actions → now' ≡ enter_all eqb held (targets_below m s a) → room < length (enter_all eqb now' (targets_of (m.outcomes s a))) → room < length (enter_all eqb held (leads_to m s))
over_action held now' m s a room l e over =
    let rest : m.actions - suc a + suc a ≡ m.actions = omega arith in
    omega (
      arith,
      ap length (enter_all-append eqb held (targets_below m s a) (targets_of (m.outcomes s a))),
      ap (λ l. length (enter_all eqb l (targets_of (m.outcomes s a)))) e,
      below_grows held m s (suc a) (m.actions - suc a),
      ap (λ n. length (enter_all eqb held (targets_below m s n))) rest,
    )

-- the answers of the search
pub search_full : (m : Model) → Lawful m → (room : ℕ) (codes : List ℕ) → room < length (codes_of m) → Searched m room codes (Err TooManyStates)
search_full m law room codes over = (refl, over, search_exceeds m law room over)

pub search_turn_full : (m : Model) → Lawful m → (room n : ℕ) (held codes : List ℕ) (s : ℕ) → held ≡ listed_after m n → n < length held → length held ≤ 4096 → s ≡ get_or held n 0 → room < length (enter_all eqb held (leads_to m s)) → Searched m room codes (Err TooManyStates)
search_turn_full m law room n held codes s e l few at over =
    let l' : n < length (listed_after m n) = omega (arith, ap length e) in
    let next : enter_all eqb held (leads_to m s) ≡ listed_after m (suc n) = (λ i. enter_all eqb (e i) (leads_to m ((at ∙ ap (λ h. get_or h n 0) e) i))) ∙ sym (listed_next m n l') in
    search_full m law room codes (omega (arith, ap length next, listed_within m (suc n) (omega arith)))

pub search_turn : (m : Model) (n : ℕ) (held after : List ℕ) (s : ℕ) → held ≡ listed_after m n → n < length held → s ≡ get_or held n 0 → after ≡ enter_all eqb held (leads_to m s) → (after ≡ listed_after m (n + 1)) × (n + 1 ≤ length after)
search_turn m n held after s e l at turn =
    let l' : n < length (listed_after m n) = omega (arith, ap length e) in
    let next : enter_all eqb held (leads_to m s) ≡ listed_after m (suc n) = (λ i. enter_all eqb (e i) (leads_to m ((at ∙ ap (λ h. get_or h n 0) e) i))) ∙ sym (listed_next m n l') in
    let one : suc n ≡ n + 1 = omega arith in
    (turn ∙ next ∙ ap (listed_after m) one, omega (arith, ap length turn, enter_all-length eqb held (leads_to m s)))

pub search_done : (m : Model) → Lawful m → (room n : ℕ) (codes : List ℕ) → codes ≡ listed_after m n → n ≤ length codes → length codes ≤ n → length codes ≤ room → length codes ≤ 4096 → Searched m room codes (Ok tt)
search_done m law room n codes e near done fits few =
    let all : codes_of m ≡ listed_after m n = listed_complete m n (omega arith) (omega (arith, ap length e)) in
    let same : codes ≡ codes_of m = e ∙ sym all in
    (same, (fits, subst (ListsReached m) (sym same) (search_lists m law (omega (arith, ap length same)))))

-- after an entry there are no fewer codes
pub entered_more : (before after : List ℕ) (room code : ℕ) (answer : Option ℕ) → Entered eqb code room before after answer → length before ≤ length after
entered_more before after room code (Some p) entered = omega (arith, ap length entered.1, enter-length eqb code before)
entered_more before after room code None (new, full, same) = omega (arith, ap length same)

-- a code that is refused, or entered at the limit, is one too many
pub not_listed : (before after : List ℕ) (room code : ℕ) (answer : Option ℕ) → Entered eqb code room before after answer → ((p : ℕ) → answer ≡ Some p → 4096 ≤ p) → room_in room < length (enter eqb code before)
not_listed before after room code (Some p) entered late =
    let past : 4096 ≤ place_of eqb code before = omega (arith, late p refl, entered.0) in
    omega (arith, entered_over before code past)
not_listed before after room code None (new, full, _) late =
    omega (arith, ap length (enter_new eqb code before (omega arith)), length_push before code)
