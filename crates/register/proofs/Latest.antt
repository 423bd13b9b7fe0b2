-- The last place of a bucket: it is of the bucket, no later one is, and one place more changes that of its own bucket alone.
use Rattle.std.proofs.Common.{◌≡◌, ℕ, zero, suc, ◌+◌, ◌-◌, ◌<◌, ◌≤◌, cond, eqb, ◌≢◌, List, length, get_or, min, set, sym, refl, ap, ◌∙◌, subst, ⊎_elim, add-one, arith}
use Rattle.register.specs.Chains.{bucket_in, buckets, latest, Chained}
use Rattle.std.proofs.lemmas.List.{get_or-set_same, get_or-set_other, length-map, map-set}
use Rattle.std.proofs.lemmas.Bool.{cond_both, cond-true, cond-false, eqb-true, eqb-false, eq-eqb, ne_eqb, cases_eq, cases_lt}

pub latest_none : (bs : List ℕ) (b : ℕ) → latest bs 0 b ≡ 0
unfolding latest
latest_none bs b = refl

pub latest_within : (bs : List ℕ) (n b : ℕ) → latest bs n b ≤ n
unfolding latest
latest_within bs zero b = omega arith
latest_within bs (suc n) b =
    let rest : latest bs n b ≤ n = latest_within bs n b in
    cond_both (eqb (get_or bs n 0) b) (suc n) (latest bs n b) (λ at. at ≤ suc n)
    (λ _. omega arith)
    (λ _. omega arith)

-- it is of the bucket
pub latest_in : (bs : List ℕ) (n b : ℕ) → 0 < latest bs n b → get_or bs (latest bs n b - 1) 0 ≡ b
unfolding latest
latest_in bs zero b = λ l. absurd (omega arith)
latest_in bs (suc n) b =
    cond_both (eqb (get_or bs n 0) b) (suc n) (latest bs n b) (λ at. 0 < at → get_or bs (at - 1) 0 ≡ b)
    (λ e _. let back : n ≡ suc n - 1 = omega arith in subst (λ (i : ℕ). get_or bs i 0 ≡ b) back (eqb-true (get_or bs n 0) b e))
    (λ _. latest_in bs n b)

-- and no later one is
pub latest_past : (bs : List ℕ) (n b q : ℕ) → q < n → get_or bs q 0 ≡ b → q < latest bs n b
unfolding latest
latest_past bs zero b q l e = absurd (omega arith)
latest_past bs (suc n) b q l e =
    cond_both (eqb (get_or bs n 0) b) (suc n) (latest bs n b) (λ at. q < at) (λ _. l)
    (λ other.
    ⊎_elim
    (λ (here : q ≡ n). absurd (eqb-false (get_or bs n 0) b other (subst (λ (i : ℕ). get_or bs i 0 ≡ b) here e)))
    (λ (ne : q ≡ n → ⊥). let sooner : q < n = omega arith in latest_past bs n b q sooner e)
    (cases_eq q n))

-- a write at i or later leaves it
pub latest-set : (bs : List ℕ) (n b i x : ℕ) → n ≤ i → latest (set bs i x) n b ≡ latest bs n b
unfolding latest
latest-set bs zero b i x l = refl
latest-set bs (suc n) b i x l =
    let ne : n ≢ i = omega arith in
    ap (λ (y : ℕ). cond (eqb y b) (suc n) (latest (set bs i x) n b)) (get_or-set_other bs i n x 0 ne)
    ∙ ap (λ (r : ℕ). cond (eqb (get_or bs n 0) b) (suc n) r) (latest-set bs n b i x (omega arith))

-- one place more is the last of its own bucket,
latest_here : (bs : List ℕ) (n b : ℕ) → get_or bs n 0 ≡ b → latest bs (n + 1) b ≡ n + 1
unfolding latest
latest_here bs n b e =
    rw add-one (cond-true (eqb (get_or bs n 0) b) (suc n) (latest bs n b) (eq-eqb (get_or bs n 0) b e))

-- and of no other
latest_other : (bs : List ℕ) (n b : ℕ) → (get_or bs n 0 ≡ b → ⊥) → latest bs (n + 1) b ≡ latest bs n b
unfolding latest
latest_other bs n b ne =
    rw add-one (cond-false (eqb (get_or bs n 0) b) (suc n) (latest bs n b) (ne_eqb (get_or bs n 0) b ne))

-- an index of no places
pub chained_none : (heads earlier bs : List ℕ) → ((b : ℕ) → b < 7919 → get_or heads b 0 ≡ 0) → Chained heads earlier bs 0
chained_none heads earlier bs none = record {
  last = λ b l. none b l ∙ sym (latest_none bs b);
  linked = λ p l. absurd (omega arith);
}

module _ (heads earlier bs : List ℕ) (n c : ℕ) (size : length heads ≡ 7919) (room : n < length earlier) (within : n < length bs) (bucket : c < 7919) (old : Chained heads earlier bs n) where
  heads_written : (b : ℕ) → b < 7919 → get_or (set heads c (n + 1)) b 0 ≡ latest (set bs n c) (n + 1) b
  heads_written b m =
      let at = get_or-set_same bs n c 0 within in
      ⊎_elim
      (λ (own : b ≡ c).
      let in' : c < length heads = omega arith in
      subst (λ (i : ℕ). get_or (set heads c (n + 1)) i 0 ≡ latest (set bs n c) (n + 1) i) (sym own)
      (get_or-set_same heads c (n + 1) 0 in' ∙ sym (latest_here (set bs n c) n c at)))
      (λ (ne : b ≢ c).
      get_or-set_other heads c b (n + 1) 0 ne
      ∙ old.last b m
      ∙ sym (latest-set bs n b n c (omega arith))
      ∙ sym (latest_other (set bs n c) n b (λ e. ne (sym e ∙ at))))
      (cases_eq b c)

  links_written : (p : ℕ) → p < n + 1 → get_or (set earlier n (get_or heads c 0)) p 0 ≡ latest (set bs n c) p (get_or (set bs n c) p 0)
  links_written p m =
      let first = get_or heads c 0 in
      ⊎_elim
      (λ (sooner : p < n).
      let ne : p ≢ n = omega arith in
      get_or-set_other earlier n p first 0 ne
      ∙ old.linked p sooner
      ∙ sym (latest-set bs p (get_or bs p 0) n c (omega arith))
      ∙ ap (λ (y : ℕ). latest (set bs n c) p y) (sym (get_or-set_other bs n p c 0 ne)))
      (λ (here : n ≤ p).
      let is : n ≡ p = omega arith in
      subst (λ (i : ℕ). get_or (set earlier n first) i 0 ≡ latest (set bs n c) i (get_or (set bs n c) i 0)) is
      (get_or-set_same earlier n first 0 room
      ∙ old.last c bucket
      ∙ sym (latest-set bs n c n c (omega arith))
      ∙ ap (λ (y : ℕ). latest (set bs n c) n y) (sym (get_or-set_same bs n c 0 within))))
      (cases_lt p n)

  -- the place of the bucket c, linked in
  pub chained_more : Chained (set heads c (n + 1)) (set earlier n (get_or heads c 0)) (set bs n c) (n + 1)
  chained_more = record { last = heads_written; linked = links_written }

-- a write past the chained places leaves the index
pub chained_past : (heads earlier bs : List ℕ) (n i c : ℕ) → n ≤ i → Chained heads earlier bs n → Chained heads earlier (set bs i c) n
chained_past heads earlier bs n i c l old = record {
  last = λ b m. old.last b m ∙ sym (latest-set bs n b i c l);
  linked =
      λ p m.
      let ne : p ≢ i = omega arith in
      old.linked p m
      ∙ sym (latest-set bs p (get_or bs p 0) i c (omega arith))
      ∙ ap (λ (y : ℕ). latest (set bs i c) p y) (sym (get_or-set_other bs i p c 0 ne));
}

-- the index after an entry at the place n
pub chained_entry : {K : Type 0} (number : K → ℕ) (xs : List K) (k : K) (n : ℕ) (heads earlier heads' earlier' : List ℕ) → n < length xs → Chained heads earlier (buckets number xs) (min n 4096) → (n < 4096 → n < length (buckets number xs) → Chained heads earlier (buckets number xs) n → Chained heads' earlier' (set (buckets number xs) n (bucket_in number k)) (n + 1)) → (4096 ≤ n → (heads' ≡ heads) × (earlier' ≡ earlier)) → Chained heads' earlier' (buckets number (set xs n k)) (min (n + 1) 4096)
chained_entry number xs k n heads earlier heads' earlier' l old linked full =
    let bs = buckets number xs in
    let long : length bs ≡ length xs = length-map xs (bucket_in number) in
    subst (λ (cs : List ℕ). Chained heads' earlier' cs (min (n + 1) 4096)) (sym (map-set (bucket_in number) xs n k))
    (⊎_elim
    (λ (few : n < 4096).
    let all : min n 4096 ≡ n = omega arith in
    let more : n + 1 ≡ min (n + 1) 4096 = omega arith in
    subst (Chained heads' earlier' (set bs n (bucket_in number k))) more (linked few (omega arith) (subst (Chained heads earlier bs) all old)))
    (λ (many : 4096 ≤ n).
    let same : min n 4096 ≡ min (n + 1) 4096 = omega arith in
    let kept = full many in
    subst (λ (hs : List ℕ). Chained hs earlier' (set bs n (bucket_in number k)) (min (n + 1) 4096)) (sym kept.0)
    (subst (λ (es : List ℕ). Chained heads es (set bs n (bucket_in number k)) (min (n + 1) 4096)) (sym kept.1)
    (chained_past heads earlier bs (min (n + 1) 4096) n (bucket_in number k) (omega arith) (subst (Chained heads earlier bs) same old))))
    (cases_lt n 4096))
