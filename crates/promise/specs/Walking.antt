-- Walking on a pile and on its written-out book beside the plan: the walker, who knows only the present state, and the reckoner, who
-- keeps the whole record, agree.
use Rattle.std.specs.Prelude.{◌≡◌, ℕ, ◌++◌, List, length, take, drop, IsSomeAnd, None, Option, Ok, Err, Result}
use Rattle.pilemodel.specs.Piles.{Piling, place_on, shown_on}
use Rattle.promise.specs.Corresponding.{book_model, place_in}
use Rattle.promise.specs.declared.causes.Unplanned.{Unplanned}
use Rattle.promise.specs.declared.plans.Plan.{Plan}
use Rattle.promise.specs.declared.walks.Walks.{Walks}
use Rattle.walk.specs.declared.Course.{Course}
use Rattle.walk.specs.declared.Step.{Step}
use Rattle.sitebook.specs.Contents.{contents}
use Rattle.walk.specs.Courses.{CourseOn, ReckonedCourse}
use Rattle.walk.specs.Reckoner.{Agree, begins, reckon_run, StaysBeside}
use Rattle.walk.specs.Walker.{begun, run}
use Rattle.weighing.specs.Discounts.{discount_of}
use Rattle.writeout.specs.Copies.{by_origin}
use Rattle.writeout.specs.Tables.{Writable}

-- what the reckoner over the ground model tells of each number, with what the pile shows
abbrev pub reckoned : Piling → List ℕ → List Step
reckoned pile numbers = reckon_run discount_of pile.base (shown_on pile) (begins pile.base) numbers

-- for every list of numbers, accepted or not: on the pile, and on its book where it can be written out
abbrev pub AgreeOnPile : Piling → Type 0
AgreeOnPile pile = Agree discount_of pile.base (shown_on pile) pile.model

abbrev pub AgreeInBook : Piling → Type 0
AgreeInBook pile =
    Writable pile.model → Agree discount_of pile.base (shown_on pile) (book_model pile.model)

-- on the pile the walk stands where the record leads, and in the book at the place of that
abbrev pub StandsOnPile : Piling → Type 0
StandsOnPile pile =
    StaysBeside discount_of pile.base (shown_on pile) pile.model (place_on pile).code

abbrev pub StandsInBook : Piling → Type 0
StandsInBook pile =
    Writable pile.model
    → StaysBeside discount_of pile.base (shown_on pile) (book_model pile.model) (place_in pile)

-- a table of steps after a walk: as many as there is room for, as the reckoner tells them
abbrev pub StepsTold : Piling → List ℕ → List Step → List Step → Type 0
StepsTold pile numbers before after =
    after ≡ reckoned pile (take (length before) numbers) ++ drop (length numbers) before

-- in the book there is a walk just where there is a plan
abbrev pub StepsInBook : Piling → List ℕ → Result Plan Unplanned → List Step → List Step → Type 0
StepsInBook pile numbers (Ok p) before after = StepsTold pile numbers before after
StepsInBook pile numbers (Err e) before after = after ≡ before

-- what a walk has at its opening and after all numbers is what the reckoner has, and it closes where he has no choice open
abbrev pub CourseTold : Piling → List ℕ → Course → Type 0
CourseTold pile numbers c = ReckonedCourse discount_of pile.base (shown_on pile) numbers c

abbrev pub CourseInBook : Piling → List ℕ → Result Plan Unplanned → Option Course → Type 0
CourseInBook pile numbers (Ok p) o = IsSomeAnd o (CourseTold pile numbers)
CourseInBook pile numbers (Err e) o = o ≡ None

-- a walk on the book of a plan, where there is one
abbrev pub WalkedInBook : List ℕ → Result Plan Unplanned → List Step → List Step → Option Course
    → Type 0
WalkedInBook numbers (Ok p) before after o =
    let book = by_origin (contents p.book.book) in
    (after ≡ run discount_of book (begun discount_of book) (take (length before) numbers)
    ++ drop (length numbers) before)
    × IsSomeAnd o (CourseOn discount_of book numbers)
WalkedInBook numbers (Err e) before after o = (after ≡ before) × (o ≡ None)

-- the same two tables as before are lent
pub record WalksStay (before after : Walks) : Type 0 where
  pub on_pile : after.on_pile.ghost_name ≡ before.on_pile.ghost_name
  pub in_book : after.in_book.ghost_name ≡ before.in_book.ghost_name
