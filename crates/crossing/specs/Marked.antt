-- The built-in crossing, computed: three states (no train, a train, a train that was swept) and the wish "swept and previous train"
-- worth 10. `Marked` is one theorem about the definitions: what the words read as, the listed codes and rewards of the pile, the
-- worths and choices of its written-out book, and walks on the pile.
use Rattle.std.specs.Prelude.{◌≡◌, ℕ, List, [], ◌∷◌, map, ℤ, pos, Some, None}
use Rattle.formula.specs.declared.Item.TheVariants.{Held}
use Rattle.formula.specs.declared.Node.{Node}
use Rattle.formula.specs.declared.Node.TheVariants.{Label, And, Previous}
use Rattle.model.specs.Models.{Model}
use Rattle.pilemodel.specs.Piles.{piled, wishes}
use Rattle.reach.specs.Search.{codes_of}
use Rattle.refusal.specs.declared.Refusal.{Refusal}
use Rattle.refusal.specs.declared.Refusal.TheVariants.{NotOffered, NoSuchOutcome}
use Rattle.sitemodel.specs.Meaning.{site_model}
use Rattle.sitelayout.specs.Layout.{site_format}
use Rattle.sitelayout.specs.declared.Mark.{Mark}
use Rattle.sitelayout.specs.declared.Move.{Move}
use Rattle.sitelayout.specs.Site.{Site}
use Rattle.walk.specs.declared.Step.{Step}
use Rattle.walk.specs.Walker.{begun, run}
use Rattle.weighing.specs.Discounts.{discount_of}
use Rattle.weighmodel.specs.Weighings.{mean, worst}
use Rattle.wishbook.specs.Book.{Book, book_of}
use Rattle.wishlayout.specs.declared.Wish.{Wish}
use Rattle.wishlayout.specs.Layout.{wish_format}
use Rattle.wishlayout.specs.Wishes.{Wishes}
use Rattle.words.specs.Format.{got, reading}
use Rattle.words.specs.Words.{bytes_of}
use Rattle.worth.specs.Worths.{worth_of, choice_of}
use Rattle.writeout.specs.Tables.{out_book}

-- the words of the site book and of the wish book
abbrev pub site_file : List ℕ
site_file =
    0x10084003
    ∷ 0x20000000 ∷ 0x300007D0 ∷ 0x20000001 ∷ 0x300017D0 ∷ 0x20000003 ∷ 0x300027D0
    ∷ 0x40010000 ∷ 0x50004000 ∷ 0x50004001 ∷ 0x40008001 ∷ 0x50008001
    ∷ 0x40011001 ∷ 0x50006002 ∷ 0x50002001 ∷ 0x40008002 ∷ 0x50008000
    ∷ 0xF0000011 ∷ []

abbrev pub wish_file : List ℕ
wish_file =
    0x10000001 ∷ 0x10000000 ∷ 0x50000001 ∷ 0x30000200 ∷ 0xA0010903 ∷ 0xF0000005 ∷ []

-- a state's labels and raised reward; its origin is its own number
abbrev pub mark : ℕ → ℕ → Mark
mark s mask = record { mask = mask; worth = record { raised = 2000; origin = s } }

abbrev pub move_to : ℕ → ℕ → Move
move_to target weight = record { target = target; weight = weight }

-- what the site book says; each state has a cell for either action
abbrev pub crossing_site : Site
crossing_site = record {
  labels = 2;
  actions = 2;
  marks = mark 0 0 ∷ mark 1 1 ∷ mark 2 3 ∷ [];
  cells =
      (move_to 0 4 ∷ move_to 1 4 ∷ [])
      ∷ []
      ∷ (move_to 1 8 ∷ [])
      ∷ (move_to 2 6 ∷ move_to 1 2 ∷ [])
      ∷ (move_to 0 8 ∷ [])
      ∷ []
      ∷ [];
}

-- swept (label 1), train (label 0), previous train, both
abbrev pub crossing_nodes : List Node
crossing_nodes = Label 1 ∷ Label 0 ∷ Previous 1 ∷ And 0 2 ∷ []

-- the amount is 10; amounts are raised by 255
abbrev pub crossing_rewards : List Wish
crossing_rewards = record { node = 3; raised = 265 } ∷ []

-- what the wish book says
abbrev pub crossing_wishes : Wishes
crossing_wishes = record { nodes = crossing_nodes; wishes = crossing_rewards }

-- no two nodes are equal, and the truth of "train" is remembered
abbrev pub crossing_wish : Book
crossing_wish = record {
  nodes = crossing_nodes;
  wishes = crossing_rewards;
  items = Held 1 ∷ [];
}

-- the pile
abbrev pub crossing : Model
crossing = piled (site_model crossing_site) (wishes crossing_wish ∷ [])

-- its states, in the order of the search
abbrev pub crossing_codes : List ℕ
crossing_codes = 0 ∷ 65536 ∷ 65537 ∷ 131073 ∷ 1 ∷ []

-- its written-out book as a model, whose states are the places in that order
abbrev pub crossing_book : Model
crossing_book = site_model (out_book crossing)

abbrev pub places : List ℕ
places = 0 ∷ 1 ∷ 2 ∷ 3 ∷ 4 ∷ []

-- with both of two slots left, place by place: what the plan is worth under mean, and what it chooses
abbrev pub planned_worths : List ℤ
planned_worths = map (worth_of mean discount_of crossing_book 2 2) places

abbrev pub planned_choices : List ℕ
planned_choices = map (choice_of mean discount_of crossing_book 2 1) places

-- a walk on the pile from its opening
abbrev pub walked : List ℕ → List Step
walked ns = run discount_of crossing (begun discount_of crossing) ns

-- a number is accepted, or refused, and what the walk has after it: site state, slot, reward and total
abbrev pub accepted : ℕ → ℕ → ℤ → ℤ → Step
accepted site slot reward total = record {
  refusal = None;
  sight = record { site = site; slot = slot; reward = reward; total = total };
}

abbrev pub refused : Refusal → ℕ → ℕ → ℤ → ℤ → Step
refused why site slot reward total = record {
  refusal = Some why;
  sight = record { site = site; slot = slot; reward = reward; total = total };
}

pub record Marked : Type 0 where
  pub site_reads : reading site_format (bytes_of site_file) ≡ got crossing_site
  pub wish_reads : reading wish_format (bytes_of wish_file) ≡ got crossing_wishes
  pub wish_means : book_of crossing_wishes ≡ crossing_wish
  pub codes : codes_of crossing ≡ crossing_codes
  pub rewards : map crossing.reward crossing_codes ≡ pos 0 ∷ pos 0 ∷ pos 0 ∷ pos 10 ∷ pos 0 ∷ []
  pub worths : planned_worths ≡ pos 54000 ∷ pos 142200 ∷ pos 142200 ∷ pos 163840 ∷ pos 54000 ∷ []
  pub choices : planned_choices ≡ 0 ∷ 1 ∷ 1 ∷ 0 ∷ 0 ∷ []
  pub start_at_worst : worth_of worst discount_of crossing_book 2 2 0 ≡ pos 0
  -- choice 0, outcome 1, choice 1, outcome 0
  pub walk : walked (0 ∷ 1 ∷ 1 ∷ 0 ∷ [])
      ≡ accepted 0 0 (pos 0) (pos 0)
      ∷ accepted 1 1 (pos 0) (pos 0)
      ∷ accepted 1 1 (pos 0) (pos 0)
      ∷ accepted 2 2 (pos 10) (pos 2250) ∷ []
  -- choice 1 is not offered at the start, and choice 0 has no outcome 2
  pub not_offered : walked (1 ∷ []) ≡ refused NotOffered 0 0 (pos 0) (pos 0) ∷ []
  pub no_such_outcome : walked (0 ∷ 2 ∷ [])
      ≡ accepted 0 0 (pos 0) (pos 0) ∷ refused NoSuchOutcome 0 0 (pos 0) (pos 0) ∷ []
