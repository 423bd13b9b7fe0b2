-- The kinds of the words of a site book, and the number that each is written as in the highest four bits of a word.
use Rattle.std.specs.Prelude.{ℕ, Ok, Err, Result, ◌==◌, if◌then◌else◌}
use Rattle.refusal.specs.declared.Refusal.{Refusal}
use Rattle.refusal.specs.declared.Refusal.TheVariants.{WrongKind}
use Rattle.words.specs.Words.{kind}
use Rattle.sitelayout.specs.declared.kind.Kind.{Kind}
use Rattle.sitelayout.specs.declared.kind.Kind.TheVariants.{Head, Mask, Reward, Entry, Move, End}

abbrev pub number_of : Kind → ℕ
number_of Head = 1
number_of Mask = 2
number_of Reward = 3
number_of Entry = 4
number_of Move = 5
number_of End = 15

-- the kind that has a number, if any has
abbrev pub numbered : ℕ → Result Kind Refusal
numbered n =
    if n == number_of Head then Ok Head
    else if n == number_of Mask then Ok Mask
    else if n == number_of Reward then Ok Reward
    else if n == number_of Entry then Ok Entry
    else if n == number_of Move then Ok Move
    else if n == number_of End then Ok End
    else Err WrongKind

abbrev pub kind_of : ℕ → Result Kind Refusal
kind_of w = numbered (kind w)
