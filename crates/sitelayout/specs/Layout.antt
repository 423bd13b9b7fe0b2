-- How a site book is written in words, and how it is read: head, two words for each state, the entries in rising order of
-- state and action, each with its outcomes, and the end word.
use Rattle.std.specs.Prelude.{◌≡◌, ℕ, zero, suc, ◌+◌, ◌-◌, ◌*◌, ◌/◌, ◌%◌, ◌^◌, ◌<◌, ◌≤◌, Bool, true, not, List, [], ◌∷◌, ◌++◌, length, replicate, Some, None, Ok, Err, Option, Result, ◌==◌, nat_le, nat_lt, if◌then◌else◌, IsTrue}
use Rattle.refusal.specs.declared.Refusal.{Refusal}
use Rattle.refusal.specs.declared.Refusal.TheVariants.{WrongKind, WrongTotal, NotRising, NoWait}
use Rattle.words.specs.Words.{kind}
use Rattle.words.specs.Format.{Step, more, ends, check, onto, Format}
use Rattle.words.specs.Tests.{all, none}
use Rattle.sitelayout.specs.declared.Entry.{Entry}
use Rattle.sitelayout.specs.declared.Head.{Head}
use Rattle.sitelayout.specs.declared.Mark.{Mark}
use Rattle.sitelayout.specs.declared.Move.{Move}
use Rattle.sitelayout.specs.declared.kind.Kind.TheVariants.{End}
use Rattle.sitelayout.specs.Kinds.{number_of}
use Rattle.sitelayout.specs.OneWord.{word_of_head, word_of_mask, word_of_reward, word_of_entry, word_of_move, head_of, mask_of, reward_of, entry_of, move_of}
use Rattle.sitelayout.specs.Site.{Site, taken, apart, total, good_mark, good_move, good_cell, waits}

-- writing

abbrev pub mark_words : List Mark → List ℕ
mark_words [] = []
mark_words (m ∷ ms) =
    word_of_mask m.mask ∷ (word_of_reward m.worth.raised m.worth.origin ∷ mark_words ms)

abbrev pub move_words : List Move → List ℕ
move_words [] = []
move_words (m ∷ ms) = word_of_move m ∷ move_words ms

-- the entry at place k of the table, where it offers anything
abbrev pub cell_word : ℕ → ℕ → List Move → List ℕ
cell_word actions k [] = []
cell_word actions k (m ∷ ms) =
    word_of_entry (k / actions) (k % actions) (length (m ∷ ms)) ∷ move_words (m ∷ ms)

abbrev pub cell_words : ℕ → ℕ → List (List Move) → List ℕ
cell_words actions k [] = []
cell_words actions k (c ∷ cs) = cell_word actions k c ++ cell_words actions (k + 1) cs

abbrev pub site_words : Site → List ℕ
site_words b =
    word_of_head (length b.marks) b.labels b.actions
    ∷ (mark_words b.marks ++ cell_words b.actions 0 b.cells)

-- reading

-- what has been read so far
pub data Draft : Type 0 where
  fresh : Draft  -- nothing yet
  marking : Head → List Mark → Option ℕ
      → Draft  -- some of the states, and a mask whose reward is due
  listing : Head → List Mark → List (List Move)
      → Draft  -- all states, and whole entries at their places
  moving : Head → List Mark → List (List Move) → List Move → ℕ
      → Draft  -- an open entry: its outcomes so far, and how many are due after the next

-- the place of an entry in the table
abbrev pub place_of : Head → Entry → ℕ
place_of h e = e.state * h.actions + e.action

-- the table filled up to place k with actions that are not offered
abbrev pub padded : ℕ → List (List Move) → List (List Move)
padded k cells = cells ++ replicate (k - length cells) []

-- one state more: the entries begin after the last
abbrev pub marked : Head → List Mark → Draft
marked h ms = if nat_lt (length ms) h.states then marking h ms None else listing h ms []

-- entries rise strictly by state and action
abbrev pub read_entry : Head → List Mark → List (List Move) → Entry → Step Draft
read_entry h ms cs e =
    check (nat_le (length cs) (place_of h e)) NotRising (more (moving h ms (padded (place_of h e) cs) [] (e.outcomes - 1)))

-- the last outcome closes its entry, whose weights then total 8
abbrev pub moved : Head → List Mark → List (List Move) → List Move → ℕ → Step Draft
moved h ms cs mv zero = check (total mv == 8) WrongTotal (more (listing h ms (cs ++ (mv ∷ []))))
moved h ms cs mv (suc due) = more (moving h ms cs mv due)

-- no target comes twice in an entry
abbrev pub read_move : Head → List Mark → List (List Move) → List Move → ℕ → Move → Step Draft
read_move h ms cs mv due m =
    check (not (taken m.target mv)) NotRising (moved h ms cs (mv ++ (m ∷ [])) due)

-- what may come next, and what it adds
unfoldable pub read_word : Draft → ℕ → Step Draft
read_word fresh w = onto (head_of w) (λ h. more (marking h [] None))
read_word (marking h ms None) w = onto (mask_of h.labels w) (λ m. more (marking h ms (Some m)))
read_word (marking h ms (Some m)) w =
    onto (reward_of w) (λ r. more (marked h (ms ++ (record { mask = m; worth = r } ∷ []))))
read_word (listing h ms cs) w =
    if kind w == number_of End then ends
    else onto (entry_of h.states h.actions w) (read_entry h ms cs)
read_word (moving h ms cs mv due) w = onto (move_of h.states w) (read_move h ms cs mv due)

abbrev pub book_of : Head → List Mark → List (List Move) → Site
book_of h ms cs =
    record { labels = h.labels; actions = h.actions; marks = ms; cells = padded (h.states * h.actions) cs }

-- at the end action 0 is offered in every state; an end word comes nowhere else than after whole entries
unfoldable pub whole_book : Draft → Result Site Refusal
whole_book (listing h ms cs) =
    if waits h.actions h.states (padded (h.states * h.actions) cs) then Ok (book_of h ms cs)
    else Err NoWait
whole_book d = Err WrongKind

abbrev pub site_format : Format Draft Site
site_format = record { start = fresh; step = read_word; finish = whole_book }

-- what has been said so far

abbrev pub head_words : Head → ℕ
head_words h = word_of_head h.states h.labels h.actions

-- the entry word at place k
abbrev pub open_word : Head → ℕ → ℕ → ℕ
open_word h k n = word_of_entry (k / h.actions) (k % h.actions) n

-- the words that a draft was read from
abbrev pub written : Draft → List ℕ
written fresh = []
written (marking h ms None) = head_words h ∷ mark_words ms
written (marking h ms (Some m)) = head_words h ∷ (mark_words ms ++ (word_of_mask m ∷ []))
written (listing h ms cs) = head_words h ∷ (mark_words ms ++ cell_words h.actions 0 cs)
written (moving h ms cs mv due) =
    head_words h
    ∷ (mark_words ms ++ (cell_words h.actions 0 cs ++ (open_word h (length cs) (length mv + suc due) ∷ move_words mv)))

abbrev pub GoodHead : Head → Type 0
GoodHead h =
    (1 ≤ h.states) × (h.states ≤ 4096) × (h.labels ≤ 24) × (1 ≤ h.actions) × (h.actions ≤ 8)

abbrev pub GoodMask : ℕ → Option ℕ → Type 0
GoodMask labels None = Unit {0}
GoodMask labels (Some m) = m < 2 ^ labels

abbrev pub GoodMarks : Head → List Mark → Type 0
GoodMarks h ms = GoodHead h × IsTrue (all (good_mark h.labels) ms)

-- the last of the cells, if there is any, is that of an entry
abbrev pub ends_offered : List (List Move) → Bool
ends_offered [] = true
ends_offered (c ∷ []) = not (none c)
ends_offered (c ∷ d ∷ cs) = ends_offered (d ∷ cs)

-- what is known of a draft: the head, the states, the entries and the outcomes that it has are good ones, and there is room for what is due
abbrev pub Good : Draft → Type 0
Good fresh = Unit {0}
Good (marking h ms o) = GoodMarks h ms × ((length ms < h.states) × GoodMask h.labels o)
Good (listing h ms cs) =
    GoodMarks h ms × ((length ms ≡ h.states) × (IsTrue (all (good_cell h.states) cs) × ((length cs ≤ h.states * h.actions) × IsTrue (ends_offered cs))))
Good (moving h ms cs mv due) =
    GoodMarks h ms × ((length ms ≡ h.states) × (IsTrue (all (good_cell h.states) cs) × ((length cs < h.states * h.actions)
    × (IsTrue (all (good_move h.states) mv) × (IsTrue (apart mv) × (length mv + suc due ≤ 8))))))
