-- That a plan which was made is whole: `whole_plan`.
use Rattle.std.proofs.Common.{◌≡◌, ℕ, ◌*◌, ◌≤◌, List, length, take, None, Ok, Result, ℤ, sym, ap, ◌∙◌, subst, arith}
use Rattle.std.specs.Prelude.{vec_items}
use Rattle.std.proofs.lemmas.List.{length-take, get_or-take}
use Rattle.model.specs.Models.{Model}
use Rattle.writeout.proofs.Origins.{origin_lawful, origin_numbered}
use Rattle.pilemodel.specs.Piles.{Piling, shown_on}
use Rattle.planning.proofs.Accepting.{sizes_pass}
use Rattle.planning.proofs.Better.{nobody_better}
use Rattle.planning.proofs.Choosing.{picks_lowest}
use Rattle.planning.specs.Plans.{choice_at, HoldsTo, tabled, sizes_refusal}
use Rattle.promise.specs.Corresponding.{Corresponds, book_model, place_in}
use Rattle.promise.specs.Planning.{BestOn, start_worth}
use Rattle.promise.specs.WholePlan.{IsPlanOf, policy_of}
use Rattle.promise.specs.declared.plans.Plan.{Plan}
use Rattle.reach.specs.Search.{codes_of}
use Rattle.refusal.specs.declared.Refusal.{Refusal}
use Rattle.refusal.specs.Rows.{unless}
use Rattle.sitebook.specs.Contents.{contents}
use Rattle.weighmodel.specs.Weighings.{Weigh, LawfulWeigh}
use Rattle.writeout.specs.Tables.{Represents, Writable, out_book, word_count}

module _ (w : Weigh) (law : LawfulWeigh w) (pile : Piling) (h : ℕ) (represents : Represents pile.model) (corresponds : Corresponds pile) where
  abbrev m : Model
  m = pile.model

  -- choices by the backward rule are the best
  pub best_of_choices : Writable m → (choices : List ℕ) → HoldsTo (choice_at w (book_model m) h) (h * (book_model m).span) choices
      → BestOn w pile h (tabled choices (book_model m).span (place_in pile) h) (start_worth w (book_model m) h)
  best_of_choices few choices holds =
      nobody_better w law (book_model m) (origin_lawful (out_book m) (represents.copies few).sound) h choices holds pile.base (shown_on pile) (place_in pile) (corresponds.in_book few)

  pub whole_plan : (p : Plan) → Writable m → p.written.states ≡ length (codes_of m) → p.written.words ≡ word_count m → contents p.book.book ≡ out_book m → p.horizon ≡ h → p.unit ≡ w.unit
      → p.worth ≡ start_worth w (book_model m) h → length (vec_items p.choices) ≡ h * (book_model m).span → HoldsTo (choice_at w (book_model m) h) (h * (book_model m).span) (vec_items p.choices)
      → IsPlanOf w pile h p
  whole_plan p few states words book slots unit worth size holds =
      record {
        corresponds = corresponds;
        writable = few;
        states = states;
        words = words;
        book = book;
        slots = slots;
        unit = unit;
        worth = worth;
        size = size;
        choices = holds;
        lowest = picks_lowest w (book_model m) (origin_lawful (out_book m) (represents.copies few).sound) (origin_numbered (out_book m) (represents.copies few).sound) h (vec_items p.choices) holds;
        best =
            subst (λ v. BestOn w pile h (policy_of pile p) v) (sym worth)
            (subst (λ n. BestOn w pile h (tabled (vec_items p.choices) (book_model m).span (place_in pile) n) (start_worth w (book_model m) h)) (sym slots)
            (best_of_choices few (vec_items p.choices) holds));
      }

pub sizes_fit : (s h a b : ℕ) → sizes_refusal s h a b ≡ None → (h ≤ 12) × (h * s ≤ b)
sizes_fit s h a b none = let told = sizes_pass s h a b none in (told.0, told.1.1)

-- the answer of planning where its sizes are fine
pub worth_told : (v x : ℤ) (s h a b : ℕ) → sizes_refusal s h a b ≡ None → Ok v ≡ unless (sizes_refusal s h a b) x → v ≡ x
worth_told v x s h a b none answer =
    let same : ◌≡◌ {A = Result ℤ Refusal} (Ok v) (Ok x) = answer ∙ ap (λ why. unless why x) none in
    cc

-- a plan of a pile is one of the same pile
pub plan_of_same : (w : Weigh) (a b : Piling) (h : ℕ) (p : Plan) → a ≡ b → IsPlanOf w a h p → IsPlanOf w b h p
plan_of_same w a b h p same is = subst (λ x. IsPlanOf w x h p) same is

-- the first places of a table hold what the table holds there
pub holds_front : (f : ℕ → ℕ) (n k : ℕ) (xs : List ℕ) → n ≡ k → k ≤ length xs → HoldsTo f k xs → HoldsTo f k (take n xs)
holds_front f n k xs same room holds p d inside = get_or-take n xs p d (omega arith) ∙ holds p d inside

pub front_length : (n k : ℕ) (xs : List ℕ) → n ≡ k → k ≤ length xs → length (take n xs) ≡ k
front_length n k xs same room = omega (arith, length-take n xs)
