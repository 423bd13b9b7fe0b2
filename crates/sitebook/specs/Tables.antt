-- What the tables say that a book is stored in: the outcomes of all cells stand in one row, and where each begins in another table.
use Rattle.std.specs.Prelude.{ℕ, zero, suc, ◌+◌, ◌-◌, ◌*◌, List, [], ◌∷◌, length, take, drop, vec_items, slice_index_or}
use Rattle.sitelayout.specs.declared.Mark.{Mark}
use Rattle.sitelayout.specs.declared.Move.{Move}
use Rattle.sitelayout.specs.Site.{Site}
use Rattle.sitebook.specs.declared.tables.Tables.{Tables}

-- what stands in the row from where cell k begins to where the next does; one that is not listed begins at the end
abbrev pub between : List ℕ → List Move → ℕ → List Move
between starts row k =
    let from = slice_index_or starts k (length row) in
    take (slice_index_or starts (k + 1) (length row) - from) (drop from row)

-- the first n cells
unfoldable pub cut : ℕ → List ℕ → List Move → List (List Move)
cut zero starts row = []
cut (suc n) [] row = [] ∷ cut n [] row
cut (suc n) (from ∷ starts) row =
    take (slice_index_or starts 0 (length row) - from) (drop from row) ∷ cut n starts row

-- the book that such tables say: a cell for each state and action
abbrev pub book_in : ℕ → ℕ → List Mark → List ℕ → List Move → Site
book_in labels actions marks starts row = record {
  labels = labels;
  actions = actions;
  marks = marks;
  cells = cut (length marks * actions) starts row;
}

abbrev pub site_of : Tables → Site
site_of t =
    book_in t.labels t.actions (vec_items t.marks) (vec_items t.starts) (vec_items t.moves)
