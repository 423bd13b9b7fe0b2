-- A table that begins with the bytes of words and is 0 after them, or that is too short for them.
use Rattle.std.specs.Prelude.{◌≡◌, ℕ, ◌-◌, ◌*◌, ◌<◌, ◌≤◌, List, ◌++◌, length, Some, None, Option, replicate}
use Rattle.words.specs.Words.{bytes_of}

-- a list made n long with zeros
abbrev pub zero_padded : ℕ → List ℕ → List ℕ
zero_padded n xs = xs ++ replicate (n - length xs) 0

-- how many words there are, unless they were too many, and the table
abbrev pub LaidIn : List ℕ → Option ℕ → List ℕ → Type 0
LaidIn ws (Some n) bytes =
    (n ≡ length ws)
    × ((4 * length ws ≤ length bytes) × (bytes ≡ zero_padded (length bytes) (bytes_of ws)))
LaidIn ws None bytes = length bytes < 4 * length ws
