-- The draft of a wish book that node words and wishes stand for: before the first wish there are node words alone.
use Rattle.std.specs.Prelude.{◌≤◌, IsTrue, List, [], ◌∷◌, length}
use Rattle.formula.specs.declared.Node.{Node}
use Rattle.wishlayout.specs.declared.Wish.{Wish}
use Rattle.wishlayout.specs.Layout.{Draft, noding, wishing, GoodNodes}
use Rattle.wishlayout.specs.Wishes.{good_wish}
use Rattle.words.specs.Tests.{all}

abbrev pub draft_with : List Node → List Wish → Draft
draft_with ns [] = noding ns
draft_with ns (w ∷ ws) = wishing ns (w ∷ ws)

-- what holds of the node words and wishes that were read
abbrev pub GoodSoFar : List Node → List Wish → Type 0
GoodSoFar ns ws =
    GoodNodes ns × (IsTrue (all (good_wish (length ns)) ws) × (1 ≤ length ws → 1 ≤ length ns))
