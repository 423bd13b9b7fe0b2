-- What a pen has written.
use Rattle.std.specs.Prelude.{◌≡◌, ℕ, ◌*◌, if◌then◌else◌, List, ◌++◌, length, Some, None, Option, nat_lt}
use Rattle.pen.specs.declared.Pen.{Pen}
use Rattle.pen.specs.Bytes.{LaidIn}

-- it has written the words ws
abbrev pub HasWritten : List ℕ → Pen → Type 0
HasWritten ws p = LaidIn ws p.words p.bytes.now

-- between two moments a pen writes the words ws, into the same table
pub record Adds (ws : List ℕ) (before after : Pen) : Type 0 where
  pub laid : (vs : List ℕ) → HasWritten vs before → HasWritten (vs ++ ws) after
  pub room : length after.bytes.now ≡ length before.bytes.now
  pub lent : after.bytes.ghost_name ≡ before.bytes.ghost_name

-- the number of words, where a table of so many bytes holds them
abbrev pub counted : ℕ → List ℕ → Option ℕ
counted space ws = if nat_lt space (4 * length ws) then None else Some (length ws)
