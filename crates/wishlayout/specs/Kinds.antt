-- The kinds of node words, their numbers, and which bits a word of each kind uses.
use Rattle.std.specs.Prelude.{◌≡◌, ℕ, ◌<◌, ◌⊎◌, Result, MatchResult}
use Rattle.refusal.specs.declared.Refusal.{Refusal}
use Rattle.refusal.specs.declared.Refusal.TheVariants.{WrongKind}
use Rattle.wishlayout.specs.declared.NodeKind.{NodeKind}
use Rattle.wishlayout.specs.declared.NodeKind.TheVariants.{Label, Not, And, Or, Previous, Since, Always, Once, True}

abbrev pub number_of : NodeKind → ℕ
number_of Label = 1
number_of Not = 2
number_of And = 3
number_of Or = 4
number_of Previous = 5
number_of Since = 6
number_of Always = 7
number_of Once = 8
number_of True = 9

-- the kind of a number, or the refusal where no kind has it
abbrev pub Decodes : ℕ → Result NodeKind Refusal → Type 0
Decodes n answer =
    MatchResult answer (λ kind. number_of kind ≡ n) (λ r. (r ≡ WrongKind) × ((n ≡ 0) ⊎ (9 < n)))

-- how many of its lowest bits a word uses
abbrev pub width_of : NodeKind → ℕ
width_of True = 0
width_of Label = 5
width_of Not = 8
width_of Previous = 8
width_of Always = 8
width_of Once = 8
width_of And = 16
width_of Or = 16
width_of Since = 16
