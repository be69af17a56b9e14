-- Lines that are read one after another.
use Rattle.std.specs.Prelude.{ℕ, ◌+◌, List, [], ◌∷◌, Option, Some, None}
use Rattle.line_scan.specs.Lines.{LinesLeft, behind_first}

-- what was read, and what is left; or what is left, whose first line can't stand there
pub data Got (A : Type 0) : Type 0 where
  got : A → LinesLeft → Got A
  stuck : LinesLeft → Got A

-- the number of the line behind the first
abbrev pub next_number : List (List ℕ) → ℕ → ℕ
next_number [] n = n
next_number (line ∷ lines) n = n + 1

-- what is left behind the first line
abbrev pub passed : LinesLeft → LinesLeft
passed left = record { lines = behind_first left.lines; number = next_number left.lines left.number }

-- one line
abbrev pub one : {A : Type 0} → Option A → LinesLeft → Got A
one None left = stuck left
one (Some x) left = got x (passed left)

-- and what stands behind it
abbrev pub and_then : {A B : Type 0} → Got A → (A → LinesLeft → Got B) → Got B
and_then (got x left) f = f x left
and_then (stuck left) f = stuck left
