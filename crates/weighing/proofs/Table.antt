-- The rule of the discounts, at every slot: one test over the whole table, which antt computes, and what the test says of each entry.
use Rattle.std.proofs.Common.{◌≡◌, ℕ, zero, suc, ◌*◌, ◌/◌, ◌<◌, ◌≤◌, Bool, true, ◌&&◌, eqb, leb, List, [], ◌∷◌, length, get_or, refl, add-one, arith}
use Rattle.std.proofs.lemmas.Bool.{and_parts, eqb-true, leb-true}
use Rattle.weighing.specs.Discounts.{Discounted, discounts}

-- the entry after `x` follows from it
abbrev follows : ℕ → List ℕ → Bool
follows x [] = true
follows x (y ∷ ys) = eqb y (15 * x / 16)

-- each entry is at most 256, and the one after it follows from it
abbrev passes : List ℕ → Bool
passes [] = true
passes (x ∷ xs) = leb x 256 && (follows x xs && passes xs)

rest : (x : ℕ) (xs : List ℕ) → passes (x ∷ xs) ≡ true → (follows x xs ≡ true) × (passes xs ≡ true)
rest x xs t = and_parts (follows x xs) (passes xs) (and_parts (leb x 256) (follows x xs && passes xs) t).1

passes_small : (xs : List ℕ) → passes xs ≡ true → (i : ℕ) → get_or xs i 0 ≤ 256
passes_small [] t i = omega arith
passes_small (x ∷ xs) t zero = leb-true x 256 (and_parts (leb x 256) (follows x xs && passes xs) t).0
passes_small (x ∷ xs) t (suc i) = passes_small xs (rest x xs t).1 i

passes_rule : (xs : List ℕ) → passes xs ≡ true → (i : ℕ) → suc i < length xs → get_or xs (suc i) 0 ≡ 15 * get_or xs i 0 / 16
passes_rule [] t i h = absurd (omega arith)
passes_rule (x ∷ []) t i h = absurd (omega arith)
passes_rule (x ∷ (y ∷ ys)) t zero h = eqb-true y (15 * x / 16) (rest x (y ∷ ys) t).0
passes_rule (x ∷ (y ∷ ys)) t (suc i) h = passes_rule (y ∷ ys) (rest x (y ∷ ys) t).1 i (omega arith)

pub discounts_ruled : Discounted discounts
discounts_ruled = record {
  slots = refl;
  first = refl;
  rule = λ i h. rw (add-one i) (passes_rule discounts refl i (omega arith));
  last = refl;
  bound = passes_small discounts refl;
}
