-- How a wish book is written in words, and how it is read: 1 to 128 node words, 1 to 16 wishes, and the end word.
use Rattle.std.specs.Prelude.{ℕ, ◌≤◌, not, List, [], ◌∷◌, ◌++◌, map, length, Ok, Err, Result, ◌==◌, nat_le, nat_lt, if◌then◌else◌, IsTrue}
use Rattle.formula.specs.declared.Node.{Node}
use Rattle.formula.specs.Formulas.{earlier}
use Rattle.refusal.specs.declared.Refusal.{Refusal}
use Rattle.refusal.specs.declared.Refusal.TheVariants.{WrongKind, TooManyItems}
use Rattle.words.specs.Words.{kind}
use Rattle.words.specs.Format.{Step, more, ends, check, onto, Format}
use Rattle.words.specs.Tests.{all, none}
use Rattle.wishlayout.specs.declared.Wish.{Wish}
use Rattle.wishlayout.specs.OneWord.{node_word, wish_word, node_of, wish_of}
use Rattle.wishlayout.specs.Wishes.{Wishes, items_for, good_label, good_wish}

-- writing

abbrev pub node_words : List Node → List ℕ
node_words ns = map node_word ns

abbrev pub amount_words : List Wish → List ℕ
amount_words ws = map wish_word ws

abbrev pub wish_words : Wishes → List ℕ
wish_words b = node_words b.nodes ++ amount_words b.wishes

-- reading

-- what has been read so far
pub data Draft : Type 0 where
  noding : List Node → Draft  -- node words only
  wishing : List Node → List Wish → Draft  -- all node words, and some wishes

-- one wish more, where there may be one
abbrev pub read_wish : List Node → List Wish → ℕ → Step Draft
read_wish ns ws w = onto (wish_of (length ns) w) (λ x. more (wishing ns (ws ++ (x ∷ []))))

-- what may come next, and what it adds
unfoldable pub read_word : Draft → ℕ → Step Draft
read_word (noding ns) w =
    if kind w == 10 then check (not (none ns)) WrongKind (read_wish ns [] w)
    else check (nat_lt (length ns) 128) WrongKind (onto (node_of (length ns) w) (λ n. more (noding (ns ++ (n ∷ [])))))
read_word (wishing ns ws) w =
    if kind w == 15 then ends
    else check (nat_lt (length ws) 16) WrongKind (read_wish ns ws w)

-- at the end the wishes need at most 16 items; an end word comes only after a wish
unfoldable pub whole_book : Draft → Result Wishes Refusal
whole_book (noding ns) = Err WrongKind
whole_book (wishing ns ws) =
    if nat_le (length (items_for ns ws)) 16 then Ok (record { nodes = ns; wishes = ws })
    else Err TooManyItems

abbrev pub wish_format : Format Draft Wishes
wish_format = record { start = noding []; step = read_word; finish = whole_book }

-- what has been said so far

-- the words that a draft was read from
abbrev pub written : Draft → List ℕ
written (noding ns) = node_words ns
written (wishing ns ws) = node_words ns ++ amount_words ws

-- what is known of a draft: its nodes and wishes are good ones, and not too many

abbrev pub GoodNodes : List Node → Type 0
GoodNodes ns = IsTrue (earlier ns) × (IsTrue (all good_label ns) × (length ns ≤ 128))

abbrev pub Good : Draft → Type 0
Good (noding ns) = GoodNodes ns
Good (wishing ns ws) =
    GoodNodes ns
    × ((1 ≤ length ns) × ((1 ≤ length ws) × ((length ws ≤ 16) × IsTrue (all (good_wish (length ns)) ws))))
