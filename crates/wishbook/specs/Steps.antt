-- What one word more answers: it was read, or it was refused, as the format says.
use Rattle.std.specs.Prelude.{◌≡◌, ℕ, List, [], ◌∷◌, ◌++◌, length, Ok, Err, Result, nat_lt}
use Rattle.formula.specs.declared.Node.{Node}
use Rattle.refusal.specs.declared.Refusal.{Refusal}
use Rattle.refusal.specs.declared.Refusal.TheVariants.{WrongKind}
use Rattle.words.specs.Format.{require}
use Rattle.words.specs.declared.reader.Turn.{Turn}
use Rattle.words.specs.declared.reader.Turn.TheVariants.{More}
use Rattle.wishlayout.specs.OneWord.{node_of, wish_of}
use Rattle.wishlayout.specs.declared.Wish.{Wish}

-- the answer to a word that says `said`, and the list after it
abbrev pub Pushed : {X : Type 0} → List X → Result X Refusal → List X → Result Turn Refusal → Type 0
Pushed xs (Ok x) ys answer = (answer ≡ Ok More) × (ys ≡ xs ++ (x ∷ []))
Pushed xs (Err r) ys answer = (answer ≡ Err r) × (ys ≡ xs)

-- the same where a full list refuses it first
abbrev pub Added : {X : Type 0} → ℕ → List X → Result X Refusal → List X → Result Turn Refusal
    → Type 0
Added most xs said ys answer =
    Pushed xs (require (nat_lt (length xs) most) WrongKind said) ys answer

-- from the nodes ns to the nodes ms
abbrev pub NodeAdded : List Node → ℕ → List Node → Result Turn Refusal → Type 0
NodeAdded ns w ms answer = Added 128 ns (node_of (length ns) w) ms answer

-- from the wishes ws to the wishes vs, after count nodes
abbrev pub WishAdded : ℕ → List Wish → ℕ → List Wish → Result Turn Refusal → Type 0
WishAdded count ws w vs answer = Added 16 ws (wish_of count w) vs answer
