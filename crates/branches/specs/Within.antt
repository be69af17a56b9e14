-- Where marks stand.
use Rattle.std.specs.Prelude.{◌≤◌, ℕ, List}
use Rattle.std.specs.List.{AllByRecursion}
use Rattle.branches.specs.declared.mark.Mark.{Mark}

-- the marks are among n bytes
abbrev pub MarksWithin : ℕ → List Mark → Type 0
MarksWithin n marks = AllByRecursion (λ k. k.at ≤ n) marks
