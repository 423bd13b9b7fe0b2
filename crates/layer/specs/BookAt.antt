-- A wish book in a state, as it is in memory: what is known of its nodes.
use Rattle.std.specs.Prelude.{◌≡◌, ℕ, Bool, IsTrue, IsFalse, List, length, take, Option, MatchOption}
use Rattle.model.specs.Models.{Model}
use Rattle.wishbook.specs.declared.book.WishBook.{WishBook}
use Rattle.wishbook.specs.Contents.{contents}
use Rattle.layer.specs.declared.book_at.BookAt.{BookAt}
use Rattle.layermodel.specs.Layered.{under, is_layer_state, verdicts_at}

abbrev pub known : BookAt → List Bool
known j = take (length (contents j.book.now).nodes) j.truths

-- the book w in the state s of its layer on the model m
pub record IsBookAt (m : Model) (w : WishBook) (s : ℕ) (j : BookAt) : Type 0 where
  pub book : j.book.now ≡ w
  pub mask : j.mask ≡ m.mask (under s)
  pub truths : known j ≡ verdicts_at m (contents w) s

-- the state below s, and the book there; none where s is no state of the layer
abbrev pub IsBookIn : Model → WishBook → ℕ → Option (ℕ × BookAt) → Type 0
IsBookIn m w s o =
    MatchOption o (IsFalse (is_layer_state m (contents w) s))
    (λ p. IsTrue (is_layer_state m (contents w) s) × (p.0 ≡ under s) × IsBookAt m w s p.1)
