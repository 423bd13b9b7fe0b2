-- A plan on the book that was written out of a pile is the best over histories of the ground model. For others: `best_of_pile` and
-- `best_in_book`.
use Rattle.std.proofs.Common.{◌≡◌, ℕ, List, ℤ, Ok, sym, subst}
use Rattle.model.specs.Histories.{Unfolds}
use Rattle.pilemodel.specs.Piles.{Piling, shown_on}
use Rattle.planning.specs.Plans.{NobodyBetter, tabled}
use Rattle.sitelayout.specs.Site.{Site}
use Rattle.weighing.specs.Discounts.{discount_of}
use Rattle.weighmodel.specs.Weighings.{Weigh}
use Rattle.writeout.specs.Copies.{by_origin}
use Rattle.writeout.specs.Tables.{Represents, Writable, out_book}
use Rattle.writeout.proofs.Origins.{origin_lawful}
use Rattle.worth.proofs.Optimal.{plan_best}
use Rattle.promise.specs.Planning.{BestInBook, BestOn}
use Rattle.promise.specs.Corresponding.{Corresponds, book_model, place_in}

pub best_of_pile : (w : Weigh) (pile : Piling) (horizon : ℕ) (choices : List ℕ) (v : ℤ) (b : Site) → b ≡ out_book pile.model → Writable pile.model → Corresponds pile → NobodyBetter w (by_origin b) horizon choices (Ok v)
    → BestOn w pile horizon (tabled choices (book_model pile.model).span (place_in pile) horizon) v
best_of_pile w pile horizon choices v b is few corresponds best =
    let u : Unfolds pile.base (shown_on pile) (by_origin b) (place_in pile) = subst (λ x. Unfolds pile.base (shown_on pile) (by_origin x) (place_in pile)) (sym is) (corresponds.in_book few) in
    subst (λ x. BestOn w pile horizon (tabled choices (by_origin x).span (place_in pile) horizon) v) is (best pile.base (shown_on pile) (place_in pile) u)

pub best_in_book : (pile : Piling) → Represents pile.model → Corresponds pile → BestInBook pile
best_in_book pile book corresponds = λ few w law horizon.
    let lawful = origin_lawful (out_book pile.model) (book.copies few).sound in
    let u = corresponds.in_book few in
    plan_best w law discount_of pile.base (shown_on pile) (book_model pile.model) (place_in pile) u (λ s a off. (lawful.moves.offers s a off).1) (λ h hist. lawful.moves.waits (place_in pile h) (u.states h hist)) horizon
