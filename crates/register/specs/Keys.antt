-- A register keeps, of keys that are equal, the first, in the order of entry: entering a key puts it at the end of the list,
-- unless one that is equal to it stands there. Which keys are equal is told by a test of two keys, the key's own `==`. The place
-- of a key is where the first that is equal to it stands, counted from 0, or the list's length where none does.
use Rattle.std.specs.Prelude.{◌≡◌, ℕ, suc, ◌+◌, ◌<◌, ◌≤◌, Bool, if◌then◌else◌, IsTrue, IsFalse, List, [], ◌∷◌, ◌++◌, length, take, drop, Some, None, Option, nat_lt, slice_index_or, AllPairs, Contains}

-- equal keys have one number, that of their bucket: the law of a key
abbrev pub SharesBucket : {K : Type 0} → (K → K → Bool) → (K → ℕ) → Type 0
SharesBucket {K} eq number = (x y : K) → IsTrue (eq x y) → number x ≡ number y

-- two keys are the same: by a test,
abbrev pub Equal : {K : Type 0} → (K → K → Bool) → K → K → Type 0
Equal eq x y = IsTrue (eq x y)

-- or as values
abbrev pub Identical : {K : Type 0} → K → K → Type 0
Identical x y = x ≡ y

-- of the keys at two places no two are the same
abbrev pub DistinctBy : {K : Type 0} → (K → K → Type 0) → List K → Type 0
DistinctBy Same ks = AllPairs (λ x y. ¬ Same x y) ks

-- no value twice
abbrev pub Distinct : {K : Type 0} → List K → Type 0
Distinct ks = DistinctBy Identical ks

-- where the first key that is equal stands, or the length where none does
abbrev pub place_of : {K : Type 0} → (K → K → Bool) → K → List K → ℕ
place_of eq k [] = 0
place_of eq k (x ∷ xs) = if eq k x then 0 else suc (place_of eq k xs)

-- the keys after one more came
abbrev pub enter : {K : Type 0} → (K → K → Bool) → K → List K → List K
enter eq k ks = if nat_lt (place_of eq k ks) (length ks) then ks else ks ++ (k ∷ [])

-- the keys of ks, entered one after another
abbrev pub enter_all : {K : Type 0} → (K → K → Bool) → List K → List K → List K
enter_all eq kept [] = kept
enter_all eq kept (k ∷ ks) = enter_all eq (enter eq k kept) ks

-- what a register holds after the keys of ks came one after another: of those that are the same the first, and no other, in the
-- order in which they came
pub record KeptBy {K : Type 0} (Same : K → K → Type 0) (ks kept : List K) : Type 0 where
  pub once : DistinctBy Same kept
  pub only : (x : K) → Contains kept x → Contains ks x
  pub every : (x : K) → Contains ks x → (y : K) × Contains kept y × Same x y
  -- wherever one came that is the same as one that is kept, this had come, or came then
  pub first : (j q : ℕ) (d : K) → j < length kept → q < length ks
      → Same (slice_index_or ks q d) (slice_index_or kept j d)
      → Contains (take (q + 1) ks) (slice_index_or kept j d)
  -- wherever one came that is the same as the later of two that are kept, the earlier had come before
  pub order : (i j q : ℕ) (d : K) → i < j → j < length kept → q < length ks
      → Same (slice_index_or ks q d) (slice_index_or kept j d)
      → Contains (take q ks) (slice_index_or kept i d)

-- the same of keys as values
abbrev pub Kept : {K : Type 0} → List K → List K → Type 0
Kept ks kept = KeptBy Identical ks kept

-- the answer to where a key stands among ks
abbrev pub Placed : {K : Type 0} → (K → K → Bool) → K → List K → Option ℕ → Type 0
Placed eq k ks (Some p) = (p < length ks) × (p ≡ place_of eq k ks)
Placed eq k ks None = place_of eq k ks ≡ length ks

-- the answer to an entry into a table of so many places: a new key is refused where the table is full
abbrev pub Entered : {K : Type 0} → (K → K → Bool) → K → ℕ → List K → List K → Option ℕ → Type 0
Entered eq k room before after (Some p) = (p ≡ place_of eq k before) × (after ≡ enter eq k before)
Entered eq k room before after None =
    (place_of eq k before ≡ length before) × (length before ≡ room) × (after ≡ before)

-- the key at a place of ks
abbrev pub Stands : {K : Type 0} → List K → ℕ → Option K → Type 0
Stands {K} ks p (Some k) = (p < length ks) × ((d : K) → k ≡ slice_index_or ks p d)
Stands ks p None = length ks ≤ p

-- the answer to how many different keys there are in ks, counted in a table: they stand first in it, and the rest is as it was; or
-- they do not fit, and those that come first fill it
abbrev pub Counted : {K : Type 0} → (K → K → Bool) → List K → List K → List K → Option ℕ → Type 0
Counted eq ks before after (Some n) =
    KeptBy (Equal eq) ks (take n after)
    × (take n after ≡ enter_all eq [] ks)
    × (n ≡ length (enter_all eq [] ks))
    × (drop n after ≡ drop n before)
Counted eq ks before after None =
    (length before < length (enter_all eq [] ks))
    × (after ≡ take (length before) (enter_all eq [] ks))

-- the answer to where, from a place on and before another, a key equal to k stands in ks
abbrev pub Found : {K : Type 0} → (K → K → Bool) → List K → K → ℕ → ℕ → Option ℕ → Type 0
Found eq ks k from end (Some p) = (from ≤ p) × (p < end) × IsTrue (eq k (slice_index_or ks p k))
Found eq ks k from end None = (q : ℕ) → from ≤ q → q < end → IsFalse (eq k (slice_index_or ks q k))
