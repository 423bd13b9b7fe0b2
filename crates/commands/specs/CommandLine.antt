-- The status that a command line ends with, where nothing fails.
use Rattle.commands.specs.Checking.{TellsFile}
use Rattle.std.specs.Prelude.{◌≡◌, ℕ, Bool, List, [], ◌∷◌, codes, bytes_eq, ◌||◌, MatchBool, if◌then◌else◌}

-- `check` with a kind and a file says whether it is a book of that kind
abbrev pub StatusOfCheck : List (List ℕ) → ℕ → Type 0
StatusOfCheck (kind ∷ file ∷ []) status = TellsFile kind status
StatusOfCheck _ status = status ≡ 1

-- the commands that build a pile
abbrev pub builds_pile : List ℕ → Bool
builds_pile word =
    bytes_eq word (codes "write") || bytes_eq word (codes "plan") || bytes_eq word (codes "walk")

-- 0 for the main job and for each command that did its work, and 1 for what is no command
abbrev pub StatusBy : List (List ℕ) → ℕ → Type 0
StatusBy [] status = status ≡ 0
StatusBy (word ∷ words) status =
    MatchBool (bytes_eq word (codes "check"))
    (StatusOfCheck words status)
    (status ≡ (if builds_pile word then 0 else 1))
