-- How many paths of a list end in abort, and how many go on.
use Rattle.std.specs.Prelude.{ℕ, suc, ◌+◌, min, if◌then◌else◌, List, [], ◌∷◌}
use Rattle.rml_command.specs.Trees.{PrimitiveTree}
use Rattle.rml_command.specs.Paths.{has_abort, max_paths}

-- the paths that go on
abbrev pub open_count : List (List PrimitiveTree) → ℕ
open_count [] = 0
open_count (p ∷ ps) = if has_abort p then open_count ps else suc (open_count ps)

-- the paths that end in abort
abbrev pub stopped_count : List (List PrimitiveTree) → ℕ
stopped_count [] = 0
stopped_count (p ∷ ps) = if has_abort p then suc (stopped_count ps) else stopped_count ps

-- a count that stops one above the limit
abbrev pub capped : ℕ → ℕ
capped n = min n (max_paths + 1)
