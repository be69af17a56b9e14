-- Which limit a sentence passes, by what is counted before anything is decided.
use Rattle.std.specs.Prelude.{◌≡◌, ℕ, nat_lt, List, sum, Option, Some, None, if◌then◌else◌}
use Rattle.fol_sig.specs.Tables.{Declared}
use Rattle.fol_formula.specs.Syntax.{FormTree}
use Rattle.fol_formula.specs.Counts.{saturated}
use Rattle.limits.specs.Ceilings.{Ceilings}
use Rattle.ground_size.specs.Counting.{AreTermCounts}
use Rattle.ground_size.specs.Sizes.{size_of}
use Rattle.ea_decide.specs.declared.decided.Passed.{Passed}
use Rattle.ea_decide.specs.declared.decided.Passed.TheVariants.{Terms, GroundSize}

-- more ground terms than the limit; if not, ground formulas larger than theirs
abbrev pub passed_of : Ceilings → ℕ → ℕ → Option Passed
passed_of limits terms size =
    if nat_lt limits.terms terms then Some (Terms (saturated terms))
    else if nat_lt limits.size size then Some (GroundSize (saturated size)) else None

-- The first limit that the sentence passes, if it passes one.
pub record Passes (limits : Ceilings) (sig : Declared) (p : FormTree) (passed : Option Passed) : Type 0 where
  pub counts : List ℕ
  pub terms : AreTermCounts sig p counts
  pub first : passed ≡ passed_of limits (sum counts) (size_of sig counts p)
