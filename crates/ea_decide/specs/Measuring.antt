-- What a sentence would cost, or the limit that it passes by its size.
use Rattle.std.specs.Prelude.{◌≡◌, ℕ, ◌≤◌, List, Some, None}
use Rattle.fol_sig.specs.Tables.{Declared}
use Rattle.fol_formula.specs.Syntax.{FormTree}
use Rattle.ground_size.specs.Counting.{AreTermCounts}
use Rattle.ground_size.specs.Sizes.{size_of}
use Rattle.limits.specs.Ceilings.{Ceilings}
use Rattle.ea_decide.specs.Passing.{Passes}
use Rattle.ea_decide.specs.declared.decided.Measured.{Measured}
use Rattle.ea_decide.specs.declared.decided.Measured.TheVariants.{Within, Over}

-- the ground formulas of the sentence, over so many terms of each sort as there are, are of this size
pub record HasSize (sig : Declared) (p : FormTree) (size : ℕ) : Type 0 where
  pub counts : List ℕ
  pub terms : AreTermCounts sig p counts
  pub is : size ≡ size_of sig counts p

-- no limit is passed, and the size is within its limit; or this limit is passed first
abbrev pub IsMeasured : Ceilings → Declared → FormTree → Measured → Type 0
IsMeasured limits sig p (Within size) =
    Passes limits sig p None × HasSize sig p size × (size ≤ limits.size)
IsMeasured limits sig p (Over passed) = Passes limits sig p (Some passed)
