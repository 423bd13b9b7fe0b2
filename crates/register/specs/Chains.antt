-- The keys of a table fall into buckets, and an index chains the places of each bucket from the last to the first.
use Rattle.std.specs.Prelude.{◌≡◌, ℕ, zero, suc, ◌%◌, ◌<◌, if◌then◌else◌, List, map, ◌==◌, slice_index}

-- the bucket of a key, by a number that it has
abbrev pub bucket_in : {K : Type 0} → (K → ℕ) → K → ℕ
bucket_in number k = number k % 7919

abbrev pub buckets : {K : Type 0} → (K → ℕ) → List K → List ℕ
buckets number ks = map (bucket_in number) ks

-- one more than the last place below n that is of the bucket b, or 0 where there is none
unfoldable pub latest : List ℕ → ℕ → ℕ → ℕ
latest bs zero b = 0
latest bs (suc n) b = if slice_index bs n == b then suc n else latest bs n b

-- the index of the first n places, whose buckets are those of bs
pub record Chained (heads earlier bs : List ℕ) (n : ℕ) : Type 0 where
  pub last : (b : ℕ) → b < 7919 → slice_index heads b ≡ latest bs n b
  pub linked : (p : ℕ) → p < n → slice_index earlier p ≡ latest bs p (slice_index bs p)
