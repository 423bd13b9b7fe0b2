-- Small books, worked out.
use Rattle.std.proofs.Common.{◌≡◌, true, false, [], ◌∷◌, refl}
use Rattle.formula.specs.declared.Node.TheVariants.{Label, True, Not, And, Previous, Since, Always, Once}
use Rattle.formula.specs.declared.Item.TheVariants.{Held, Failed}
use Rattle.formula.specs.Formulas.{atom, truth, since, sometime, formulas, earlier}
use Rattle.formula.specs.Merging.{nodes_of, numbers_of}
use Rattle.formula.specs.Resting.{resting}
use Rattle.formula.specs.Items.{items_of}

-- the second label and the second once are merged
merged : nodes_of (Label 3 ∷ Label 3 ∷ Once 1 ∷ Previous 2 ∷ Once 0 ∷ Always 4 ∷ Previous 5 ∷ And 3 6 ∷ Not 0 ∷ []) ≡ Label 3 ∷ Once 0 ∷ Previous 1 ∷ Always 1 ∷ Previous 3 ∷ And 2 4 ∷ Not 0 ∷ []
merged = refl

numbered : numbers_of (Label 3 ∷ Label 3 ∷ Once 1 ∷ Previous 2 ∷ Once 0 ∷ Always 4 ∷ Previous 5 ∷ And 3 6 ∷ Not 0 ∷ []) ≡ 0 ∷ 0 ∷ 1 ∷ 2 ∷ 1 ∷ 3 ∷ 4 ∷ 5 ∷ 6 ∷ []
numbered = refl

-- all but the last node, which no reward names
rest : resting (Label 3 ∷ Once 0 ∷ Previous 1 ∷ Always 1 ∷ Previous 3 ∷ And 2 4 ∷ Not 0 ∷ []) (5 ∷ []) ≡ true ∷ true ∷ true ∷ true ∷ true ∷ true ∷ false ∷ []
rest = refl

-- one held item serves `once` and `previous once`; an always has its failed item, and its held item for its previous
kept : items_of (Label 3 ∷ Label 3 ∷ Once 1 ∷ Previous 2 ∷ Once 0 ∷ Always 4 ∷ Previous 5 ∷ And 3 6 ∷ Not 0 ∷ []) (7 ∷ []) ≡ Held 1 ∷ Held 3 ∷ Failed 3 ∷ []
kept = refl

in_order : earlier (Label 3 ∷ Label 3 ∷ Once 1 ∷ Previous 2 ∷ Once 0 ∷ Always 4 ∷ Previous 5 ∷ And 3 6 ∷ Not 0 ∷ []) ≡ true
in_order = refl

trees : formulas (Label 3 ∷ True ∷ Once 0 ∷ Since 1 2 ∷ []) ≡ atom 3 ∷ truth ∷ sometime (atom 3) ∷ since truth (sometime (atom 3)) ∷ []
trees = refl

-- an always and a previous that are not used keep nothing
unused : items_of (Label 3 ∷ Once 0 ∷ Previous 1 ∷ Always 0 ∷ Previous 0 ∷ []) (2 ∷ []) ≡ Held 1 ∷ []
unused = refl
