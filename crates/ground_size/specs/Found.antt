-- How large the ground formulas of a sentence are, in 64 bits.
use Rattle.std.specs.Prelude.{◌≡◌, ℕ, List, sum}
use Rattle.fol_sig.specs.Tables.{Declared}
use Rattle.fol_formula.specs.Syntax.{FormTree}
use Rattle.fol_formula.specs.Counts.{saturated}
use Rattle.ground_size.specs.Counting.{AreTermCounts}
use Rattle.ground_size.specs.Sizes.{size_of}
use Rattle.ground_size.specs.declared.found.GroundSize.{GroundSize}

-- There are so many ground terms of each sort, and these are their sum and the size of the ground formulas over them,
-- but for what 64 bits do not hold.
pub record IsGroundSize (sig : Declared) (p : FormTree) (found : GroundSize) : Type 0 where
  pub counts : List ℕ
  pub are : AreTermCounts sig p counts
  pub terms : found.terms ≡ saturated (sum counts)
  pub size : found.size ≡ saturated (size_of sig counts p)
