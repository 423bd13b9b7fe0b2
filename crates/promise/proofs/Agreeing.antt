-- Walker and reckoner agree on a pile and on its book. For others: `agree_on_pile`, `agree_in_book`,
-- `stands_on_pile`, `stands_in_book`, `steps_agree`, `course_on_pile`, `steps_in_book`, `course_in_book` and `own_book`.
use Rattle.std.proofs.Common.{◌≡◌, ℕ, ◌++◌, List, length, take, drop, not, Some, None, Option, Ok, Err, Result, refl, ap, ◌∙◌, subst, arith}
use Rattle.std.specs.Prelude.{IfOk, IsSomeAnd, is_none}
use Rattle.model.specs.Models.{Model}
use Rattle.pilemodel.specs.Piles.{Piling, place_on, shown_on}
use Rattle.promise.specs.Corresponding.{Corresponds, book_model, place_in}
use Rattle.promise.specs.Walking.{AgreeOnPile, AgreeInBook, CourseInBook, CourseTold, StandsInBook, StandsOnPile, StepsInBook, WalkedInBook, reckoned}
use Rattle.promise.specs.WholePlan.{IsPlanOf}
use Rattle.promise.specs.declared.causes.Unplanned.{Unplanned}
use Rattle.promise.specs.declared.plans.Plan.{Plan}
use Rattle.sitebook.specs.Contents.{contents}
use Rattle.walk.specs.declared.Course.{Course}
use Rattle.walk.specs.declared.Step.{Step}
use Rattle.walk.specs.Courses.{CourseOn}
use Rattle.walk.specs.Reckoner.{Agree, StaysBeside, begins, reckoned_after}
use Rattle.walk.specs.Walker.{Walk, standing, choosing, begun, chosen_in, is_choosing, reached, run}
use Rattle.walk.proofs.Agreement.{agrees_over_all, beside_over_all}
use Rattle.weighing.specs.Discounts.{discount_of}
use Rattle.weighmodel.specs.Weighings.{Weigh}
use Rattle.writeout.specs.Copies.{by_origin}
use Rattle.writeout.specs.Tables.{Writable, out_book}

pub agree_on_pile : (pile : Piling) → Corresponds pile → AgreeOnPile pile
agree_on_pile pile corresponds = agrees_over_all pile.model pile.base (shown_on pile) (place_on pile).code corresponds.on_pile

pub agree_in_book : (pile : Piling) → Corresponds pile → AgreeInBook pile
agree_in_book pile corresponds = λ few. agrees_over_all (book_model pile.model) pile.base (shown_on pile) (place_in pile) (corresponds.in_book few)

-- a table that the walker's steps were put in holds those of the reckoner
pub steps_agree : (pile : Piling) (m : Model) → Agree discount_of pile.base (shown_on pile) m → (numbers : List ℕ) (before after : List Step) → after ≡ run discount_of m (begun discount_of m) (take (length before) numbers) ++ drop (length numbers) before
    → after ≡ reckoned pile (take (length before) numbers) ++ drop (length numbers) before
steps_agree pile m agree numbers before after is = is ∙ ap (λ s. s ++ drop (length numbers) before) (agree.always (take (length before) numbers))

pub stands_on_pile : (pile : Piling) → Corresponds pile → StandsOnPile pile
stands_on_pile pile corresponds = beside_over_all pile.model pile.base (shown_on pile) (place_on pile).code corresponds.on_pile

pub stands_in_book : (pile : Piling) → Corresponds pile → StandsInBook pile
stands_in_book pile corresponds = λ few. beside_over_all (book_model pile.model) pile.base (shown_on pile) (place_in pile) (corresponds.in_book few)

-- a choice is open on the walk just where the reckoner has one
open_alike : (walk : Walk) (c : Option ℕ) → chosen_in walk ≡ c → not (is_choosing walk) ≡ is_none c
open_alike (standing s) c same = ap is_none same
open_alike (choosing s a) c same = ap is_none same

-- the course of a walk that stays beside the reckoner is his
pub course_agrees : (pile : Piling) (m : Model) (code : List ℕ → ℕ) → Agree discount_of pile.base (shown_on pile) m → StaysBeside discount_of pile.base (shown_on pile) m code → (numbers : List ℕ) (c : Course) → CourseOn discount_of m numbers c → CourseTold pile numbers c
course_agrees pile m code agree beside numbers c on =
    record {
      opening = on.opening ∙ agree.opening;
      last = on.last ∙ (beside numbers).has;
      closed = on.closed ∙ open_alike (reached discount_of m (begun discount_of m) numbers) (reckoned_after pile.base (shown_on pile) (begins pile.base) numbers).chosen (beside numbers).chosen;
    }

module _ (pile : Piling) (corresponds : Corresponds pile) (numbers : List ℕ) (before after : List Step) where
  pub course_on_pile : (c : Course) → CourseOn discount_of pile.model numbers c → CourseTold pile numbers c
  course_on_pile c on = course_agrees pile pile.model (place_on pile).code (agree_on_pile pile corresponds) (stands_on_pile pile corresponds) numbers c on

  pub steps_in_book : (r : Result Plan Unplanned) (o : Option Course) → ((p : Plan) → r ≡ Ok p → Writable pile.model × (contents p.book.book ≡ out_book pile.model)) → WalkedInBook numbers r before after o → StepsInBook pile numbers r before after
  steps_in_book (Ok p) o told walked =
      let (few, book) = told p refl in
      steps_agree pile (book_model pile.model) (agree_in_book pile corresponds few) numbers before after
      (walked.0 ∙ ap (λ b. run discount_of (by_origin b) (begun discount_of (by_origin b)) (take (length before) numbers) ++ drop (length numbers) before) book)
  steps_in_book (Err e) o told walked = walked.0

  some_course : (P Q : Course → Type 0) (o : Option Course) → ((c : Course) → P c → Q c) → IsSomeAnd o P → IsSomeAnd o Q
  some_course P Q (Some c) f p = f c p
  some_course P Q None f p = absurd p

  pub course_in_book : (r : Result Plan Unplanned) (o : Option Course) → ((p : Plan) → r ≡ Ok p → Writable pile.model × (contents p.book.book ≡ out_book pile.model)) → WalkedInBook numbers r before after o → CourseInBook pile numbers r o
  course_in_book (Ok p) o told walked =
      let (few, book) = told p refl in
      some_course (CourseOn discount_of (by_origin (contents p.book.book)) numbers) (CourseTold pile numbers) o
      (λ c on. course_agrees pile (book_model pile.model) (place_in pile) (agree_in_book pile corresponds few) (stands_in_book pile corresponds few) numbers c (subst (λ b. CourseOn discount_of (by_origin b) numbers c) book on))
      walked.1
  course_in_book (Err e) o told walked = walked.1

-- a plan that was made is one of the pile's own book
pub own_book : (w : Weigh) (pile : Piling) (h : ℕ) (r : Result Plan Unplanned) → IfOk r (IsPlanOf w pile h) → (p : Plan) → r ≡ Ok p → Writable pile.model × (contents p.book.book ≡ out_book pile.model)
own_book w pile h (Ok q) is p same =
    let whole = subst (IsPlanOf w pile h) (ok_same same) is in
    (whole.writable, whole.book)
  where
    ok_same : {q p : Plan} → ◌≡◌ {A = Result Plan Unplanned} (Ok q) (Ok p) → q ≡ p
    ok_same e = cc
own_book w pile h (Err e) is p same = let z : ◌≡◌ {A = ℕ} 0 1 = cc in absurd (omega arith)
