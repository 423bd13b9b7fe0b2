-- How large the numbers of a layer grow: memories and wish bits by their powers of two, rewards by the amounts.
use Rattle.std.specs.Prelude.{ℕ, suc, ◌+◌, ◌*◌, ◌^◌, ◌<◌, ◌≤◌, Bool, true, false, cond, List, [], ◌∷◌, length, take, ℤ, ◌+ℤ◌, unsigned_abs}
use Rattle.std.proofs.Common.{pow-suc, lt_of_lt_of_le, arith, pow_mono}
use borrow.Author.Differences.{abs_is}
use Rattle.std.proofs.lemmas.Nat.{pow-add, mul-add-lt}
use Rattle.std.proofs.lemmas.Int.{ints}
use Rattle.std.proofs.lemmas.List.{length-take}
use Rattle.std.proofs.lemmas.List.Sums.{sum_by-cons}
use Rattle.wishlayout.specs.declared.Wish.{Wish}
use Rattle.wishlayout.specs.Wishes.{amount}
use Rattle.layermodel.specs.Verdicts.{bit, bits_of, wish_held, earned}
use Rattle.layermodel.specs.Layered.{amounts}

pub bit_below : (b : Bool) (m k : ℕ) → m < 2 ^ k → bit b + 2 * m < 2 ^ suc k
bit_below true m k h = omega (arith, pow-suc 2 k)
bit_below false m k h = omega (arith, pow-suc 2 k)

-- a number from bits, by how many there are
pub bits_below : {X : Type 0} (holds : X → Bool) (xs : List X) → bits_of holds xs < 2 ^ length xs
bits_below holds [] = omega arith
bits_below holds (x ∷ xs) = bit_below (holds x) (bits_of holds xs) (length xs) (bits_below holds xs)

pub bits_small : {X : Type 0} (holds : X → Bool) (xs : List X) → length xs ≤ 16 → bits_of holds xs < 65536
bits_small holds xs few = lt_of_lt_of_le (bits_below holds xs) (pow_mono few)

-- wish bits above the labels below
pub mask_grows : (labels more mask bits : ℕ) → mask < 2 ^ labels → bits < 2 ^ more → mask + 2 ^ labels * bits < 2 ^ (labels + more)
mask_grows labels more mask bits p q = omega (arith, mul-add-lt bits (2 ^ labels) mask (2 ^ more) q p, pow-add 2 labels more)

pub abs_add : (a b : ℤ) → unsigned_abs (a +ℤ b) ≤ unsigned_abs a + unsigned_abs b
abs_add a b = omega (arith, ints, abs_is (a +ℤ b), abs_is a, abs_is b)

abs_step : (b : Bool) (sum more : ℤ) → unsigned_abs (cond b (sum +ℤ more) sum) ≤ unsigned_abs sum + unsigned_abs more
abs_step true sum more = abs_add sum more
abs_step false sum more = omega arith

-- what is earned, by what was earned before and the amounts
pub earned_within : (sum : ℤ) (ws : List Wish) (vs : List Bool) → unsigned_abs (earned sum ws vs) ≤ unsigned_abs sum + amounts ws
earned_within sum [] vs = omega arith
earned_within sum (w ∷ ws) vs =
    let step = abs_step (wish_held vs w) sum (amount w) in
    omega (arith, earned_within (cond (wish_held vs w) (sum +ℤ amount w) sum) ws vs, sum_by-cons (λ (x : Wish). unsigned_abs (amount x)) w ws)

-- the front of a list is no longer than its number
pub take_few : {X : Type 0} (n : ℕ) (xs : List X) → n ≤ 16 → length (take n xs) ≤ 16
take_few n xs few = omega (arith, length-take n xs)
