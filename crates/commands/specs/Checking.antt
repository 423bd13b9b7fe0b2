-- The kinds of books, and the status that checking a file as a book of a kind ends with: 0 where it is one, 1 where it is refused.
use Rattle.commands.specs.declared.check.Kind.{Kind}
use Rattle.commands.specs.declared.check.Kind.TheVariants.{Site, Rule, Wish}
use Rattle.rulelayout.specs.Layout.{rule_format}
use Rattle.sitelayout.specs.Layout.{site_format}
use Rattle.std.specs.Prelude.{◌≡◌, ◌⊎◌, ℕ, List, codes, Ok, Err, Result}
use Rattle.wishlayout.specs.Layout.{wish_format}
use Rattle.words.specs.Format.{Verdict, got, stop, reading}

-- the word for a kind
abbrev pub kind_word : Kind → List ℕ
kind_word Site = codes "site"
kind_word Rule = codes "rule"
kind_word Wish = codes "wish"

-- 0 where a file holds a book, 1 where it is refused
abbrev pub status_of : {B : Type 0} → Verdict B → ℕ
status_of (got b) = 0
status_of (stop r p) = 1

-- 0 where a reader gave a book, 1 where it gave anything else
abbrev pub status_told : {B F : Type 0} → Result B F → ℕ
status_told (Ok b) = 0
status_told (Err f) = 1

-- the status is what the kind's format says of the bytes; want of memory may refuse a good site book, and a bad one never ends with 0
abbrev pub Tells : Kind → List ℕ → ℕ → Type 0
Tells Site bytes status = (status ≡ status_of (reading site_format bytes)) ⊎ (status ≡ 1)
Tells Rule bytes status = status ≡ status_of (reading rule_format bytes)
Tells Wish bytes status = status ≡ status_of (reading wish_format bytes)

-- the same of a file, whatever it holds, and of the kind that a word names
pub record TellsFile (word : List ℕ) (status : ℕ) : Type 0 where
  pub kind : Kind
  pub named : word ≡ kind_word kind
  pub bytes : List ℕ
  pub tells : Tells kind bytes status
