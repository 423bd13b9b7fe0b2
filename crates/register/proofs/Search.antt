-- The search for a key goes back through its bucket: what it has yet to see holds a key that is equal to it, if any chained place does.
use Rattle.std.proofs.Common.{◌≡◌, ℕ, ◌+◌, ◌-◌, ◌%◌, ◌<◌, ◌≤◌, Bool, true, false, List, length, get_or, drop, min, Some, None, Option, sym, ap, ◌∙◌, subst, ⊎_elim, arith}
use Rattle.std.specs.Cmp.{IsEquivalence}
use Rattle.register.specs.Chains.{bucket_in, buckets, latest, Chained}
use Rattle.register.specs.Keys.{SharesBucket, Equal, DistinctBy, place_of, Placed, Found}
use Rattle.register.proofs.Keys.{place_of_le, place_of_holds, place_of_equal}
use Rattle.register.proofs.Latest.{latest_within, latest_in, latest_past}
use Rattle.std.proofs.lemmas.List.{get_or-map, get_or-drop, get_or_read, length-drop}
use Rattle.std.proofs.lemmas.Bool.{both_ways, cases_lt}
use Rattle.std.specs.List.{HoldsAt, AllWithin}

-- a place at which a key stands that is equal is of the bucket
pub tells : {K : Type 0} (eq : K → K → Bool) (number : K → ℕ) → SharesBucket eq number → (xs : List K) (k : K) (q : ℕ) → q < length xs → eq k (get_or xs q k) ≡ true → get_or (buckets number xs) q 0 ≡ bucket_in number k
tells eq number shares xs k q l e =
    get_or-map (bucket_in number) xs q k 0 l ∙ ap (λ n. n % 7919) (sym (shares k (get_or xs q k) e))

-- among the first n of xs none is equal to the key at `at` or later, and `at` is 0 or one more than a place of its bucket b
pub record Sought {K : Type 0} (eq : K → K → Bool) (xs : List K) (bs : List ℕ) (n : ℕ) (k : K) (b at : ℕ) : Type 0 where
  pub within : at ≤ n
  pub of : 0 < at → get_or bs (at - 1) 0 ≡ b
  pub past : (q : ℕ) → q < n → eq k (get_or xs q k) ≡ true → q < at

module _ {K : Type 0} (eq : K → K → Bool) (xs : List K) (bs : List ℕ) (n : ℕ) (k : K) (b : ℕ) (is : (q : ℕ) → q < n → eq k (get_or xs q k) ≡ true → get_or bs q 0 ≡ b) where
  -- at the last place of the bucket
  pub sought_first : (at : ℕ) → at ≡ latest bs n b → Sought eq xs bs n k b at
  sought_first at e =
      subst (Sought eq xs bs n k b) (sym e) (record {
        within = latest_within bs n b;
        of = latest_in bs n b;
        past = λ q l h. latest_past bs n b q l (is q l h);
      })

-- one place further back in the bucket
pub sought_next : {K : Type 0} (eq : K → K → Bool) (xs : List K) (bs : List ℕ) (n : ℕ) (k : K) (b at next : ℕ) → ((q : ℕ) → q < n → eq k (get_or xs q k) ≡ true → get_or bs q 0 ≡ b) → Sought eq xs bs n k b at → 0 < at → eq k (get_or xs (at - 1) k) ≡ false → next ≡ latest bs (at - 1) (get_or bs (at - 1) 0) → (next < at) × Sought eq xs bs n k b next
sought_next eq xs bs n k b at next is s l other e =
    let e' : next ≡ latest bs (at - 1) b = e ∙ ap (latest bs (at - 1)) (s.of l) in
    let back = sought_first eq xs bs (at - 1) k b (λ q m h. is q (omega (arith, s.within)) h) next e' in
    let less : next ≤ at - 1 = back.within in (
      omega arith,
      record {
        within = omega (arith, s.within);
        of = back.of;
        past =
            λ q m h.
            let before : q < at = s.past q m h in
            ⊎_elim
            (λ (sooner : q < at - 1). back.past q sooner h)
            (λ (here : at - 1 ≤ q).
            let same : q ≡ at - 1 = omega arith in
            absurd (both_ways (eq k (get_or xs (at - 1) k)) other (subst (λ (i : ℕ). eq k (get_or xs i k) ≡ true) same h)))
            (cases_lt q (at - 1));
      },
    )

-- the places from 0 to m and from m to n hold a key that is equal, or not
pub placed : {K : Type 0} (eq : K → K → Bool) → IsEquivalence eq → (k : K) (ks : List K) (from end p : ℕ) → DistinctBy (Equal eq) ks → end ≤ length ks → Found eq ks k from end (Some p) → Placed eq k ks (Some p)
placed eq E k ks from end p apart fits (l, m, e) =
    let m' : p < length ks = omega arith in
    (m', sym (place_of_equal eq E k ks p k apart m' e))

pub nowhere : {K : Type 0} (eq : K → K → Bool) (k : K) (ks : List K) → ((q : ℕ) → q < length ks → eq k (get_or ks q k) ≡ false) → Placed eq k ks None
nowhere eq k ks none =
    ⊎_elim
    (λ (there : place_of eq k ks < length ks).
    absurd (both_ways (eq k (get_or ks (place_of eq k ks) k)) (none (place_of eq k ks) there) (place_of_holds eq k ks k there)))
    (λ (full : length ks ≤ place_of eq k ks). omega (arith, place_of_le eq k ks))
    (cases_lt (place_of eq k ks) (length ks))

-- what a look through the places from n on found
pub later_some : {K : Type 0} (eq : K → K → Bool) → IsEquivalence eq → (ks : List K) (k : K) (n i : ℕ) → i < length (drop n ks) → HoldsAt (λ x. eq x k ≡ true) (drop n ks) i → Found eq ks k n (length ks) (Some (n + i))
later_some eq E ks k n i l h =
    let at : eq (get_or ks (n + i) k) k ≡ true = subst (λ (x : _). eq x k ≡ true) (get_or-drop n ks i k) (h k) in
    (omega arith, omega (arith, length-drop n ks), E.symm k (get_or ks (n + i) k) ∙ at)

pub later_none : {K : Type 0} (eq : K → K → Bool) → IsEquivalence eq → (ks : List K) (k : K) (n : ℕ) → AllWithin (λ x. eq x k ≡ false) (drop n ks) 0 (length (drop n ks)) → Found eq ks k n (length ks) None
later_none eq E ks k n none q l m =
    let i = q - n in
    let at : n + i ≡ q = omega arith in
    let other = subst (λ (x : _). eq x k ≡ false) (get_or-drop n ks i k) (none i k (omega arith) (omega (arith, length-drop n ks))) in
    E.symm k (get_or ks q k) ∙ subst (λ (j : ℕ). eq (get_or ks j k) k ≡ false) at other

-- where it is another key that stands there, the search goes one place further back
pub chained_back : {K : Type 0} (eq : K → K → Bool) → IsEquivalence eq → (number : K → ℕ) → SharesBucket eq number → (xs : List K) (heads earlier : List ℕ) (k x : K) (len at : ℕ) → len ≤ length xs → Chained heads earlier (buckets number xs) (min len 4096) → Sought eq xs (buckets number xs) (min len 4096) k (bucket_in number k) at → 0 < at → x ≡ get_or xs (at - 1) x → eq x k ≡ false → (get_or earlier (at - 1) 0 < at) × Sought eq xs (buckets number xs) (min len 4096) k (bucket_in number k) (get_or earlier (at - 1) 0)
chained_back eq E number shares xs heads earlier k x len at fits chained s l read other =
    let within : at - 1 < length xs = omega (arith, s.within) in
    let is : get_or xs (at - 1) k ≡ x = sym (get_or_read xs (at - 1) x within read k) in
    sought_next eq xs (buckets number xs) (min len 4096) k (bucket_in number k) at (get_or earlier (at - 1) 0)
    (λ q m e. tells eq number shares xs k q (omega arith) e)
    s l
    (ap (eq k) is ∙ E.symm k x ∙ other)
    (chained.linked (at - 1) (omega (arith, s.within)))

-- what a look through all places says
pub one_part : {K : Type 0} (eq : K → K → Bool) → IsEquivalence eq → (k : K) (ks : List K) (len : ℕ) → length ks ≡ len → DistinctBy (Equal eq) ks → (r : Option ℕ) → Found eq ks k 0 len r → Placed eq k ks r
one_part eq E k ks len size apart (Some p) all = placed eq E k ks 0 len p apart (omega arith) all
one_part eq E k ks len size apart None all = nowhere eq k ks (λ q l. all q (omega arith) (omega arith))

-- what the look through the later places says, where the chained ones hold no key that is equal
pub both_parts : {K : Type 0} (eq : K → K → Bool) → IsEquivalence eq → (k : K) (ks : List K) (len : ℕ) → length ks ≡ len → DistinctBy (Equal eq) ks → Found eq ks k 0 (min len 4096) None → (r : Option ℕ) → Found eq ks k 4096 len r → Placed eq k ks r
both_parts eq E k ks len size apart first (Some p) later = placed eq E k ks 4096 len p apart (omega arith) later
both_parts eq E k ks len size apart first None later =
    nowhere eq k ks
    (λ q l.
    ⊎_elim
    (λ (sooner : q < 4096). first q (omega arith) (omega arith))
    (λ (past : 4096 ≤ q). later q past (omega arith))
    (cases_lt q 4096))
