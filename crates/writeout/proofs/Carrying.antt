-- The book that is written out unfolds, by its origins, whatever ground model the model unfolds: `book_carries`.
use Rattle.std.proofs.Common.{◌≡◌, ℕ, ◌<◌, eqb, List, [], ◌∷◌, map, length, get_or, sym, refl, ap, ◌∙◌, arith}
use Rattle.std.specs.List.{Contains}
use Rattle.std.proofs.lemmas.Bool.{lt-ltb}
use Rattle.model.specs.declared.Outcome.{Outcome}
use Rattle.model.specs.Histories.{final, Shown, History, along, Unfolds}
use Rattle.model.specs.Models.{Model, Lawful}
use Rattle.model.proofs.Paths.{one_over}
use Rattle.register.specs.Keys.{place_of}
use Rattle.register.proofs.Identity.{eqb_identity, place_of-get_or}
use Rattle.sitemodel.specs.Meaning.{outcome_of}
use Rattle.writeout.specs.Book.{move_to, cell_of, book_of}
use Rattle.writeout.specs.Copies.{Copies, by_origin, place_in_book, CarriesOver}
use Rattle.writeout.proofs.Closed.{Closed, place_below, place_code}
use Rattle.writeout.proofs.Copying.{book_cell, book_copies}

-- an outcome along a history leads to the place at which the longer history stands
moves_along : (codes : List ℕ) (code : List ℕ → ℕ) (h : List ℕ) (os : List Outcome) → map outcome_of (map (move_to codes) (map (along code h) os)) ≡ map (along (place_in_book codes code) h) os
moves_along codes code h [] = refl
moves_along codes code h (o ∷ os) = ap (λ l. along (place_in_book codes code) h o ∷ l) (moves_along codes code h os)

module _ (m : Model) (law : Lawful m) (codes : List ℕ) (from : Closed m codes) where
  module _ (g : Model) (sh : Shown) (code : List ℕ → ℕ) (u : Unfolds g sh m code) where
    copies : Copies m codes (book_of m codes)
    copies = book_copies m law codes from

    -- each history stands at a listed state
    stands_listed : (h : List ℕ) → History g sh.offered h → Contains codes (code h)
    stands_listed h hist =
        let up = one_over g sh m code u h hist in
        from.every (code h) (up.0, (up.1.0, up.1.1.1.0))

    below : (h : List ℕ) → History g sh.offered h → place_in_book codes code h < length codes
    below h hist = place_below codes (code h) (stands_listed h hist)

    -- which is listed at its place
    here : (h : List ℕ) → History g sh.offered h → get_or codes (place_in_book codes code h) 0 ≡ code h
    here h hist = place_code codes (code h) (stands_listed h hist)

    carried : Unfolds g sh (by_origin (book_of m codes)) (place_in_book codes code)
    carried = record {
      first = ap (λ c. place_of eqb c codes) (u.first ∙ sym from.first) ∙ place_of-get_or eqb eqb_identity codes 0 0 from.once from.some;
      states = λ h hist. lt-ltb _ _ (omega (arith, below h hist, copies.states));
      sites = λ h hist. copies.origins (place_in_book codes code h) (below h hist) ∙ ap m.site (here h hist) ∙ u.sites h hist;
      masks = λ h hist. copies.masks (place_in_book codes code h) (below h hist) ∙ ap m.mask (here h hist) ∙ u.masks h hist;
      rewards = λ h hist. copies.rewards (place_in_book codes code h) (below h hist) ∙ ap m.reward (here h hist) ∙ u.rewards h hist;
      offers = λ h hist a. copies.offers (place_in_book codes code h) a (below h hist) ∙ ap (λ c. m.offered c a) (here h hist) ∙ u.offers h hist a;
      moves = λ h hist a off.
          ap (map outcome_of) (book_cell m law codes from (place_in_book codes code h) a (below h hist) ∙ ap (λ c. cell_of m codes c a) (here h hist) ∙ ap (map (move_to codes)) (u.moves h hist a off))
          ∙ moves_along codes code h (g.outcomes (final h) a);
    }

  pub book_carries : CarriesOver m codes (book_of m codes)
  book_carries g sh code u = carried g sh code u
