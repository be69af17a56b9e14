-- What a search under a budget of learnt additions ends with.
use Rattle.std.specs.Prelude.{ℕ, ◌≤◌, ◌≡◌, List, [], ◌∷◌, ◌++◌, length}
use Rattle.cnf_base.specs.Formulas.{Formula}
use Rattle.lrat_log.specs.declared.line.Line.{Line}
use Rattle.lrat_log.specs.declared.line.Line.TheVariants.{Add}
use Rattle.lrat_log.specs.Accepted.{IsAccepted}
use Rattle.lrat_log.specs.Held.{held_of, after_lines}
use Rattle.lrat_log.specs.Learnt.{AreLearnt, IsPropagationConsistent}

-- an accepted log that ends with the empty clause, behind at most so many learnt additions
pub record IsRefutation (f : Formula) (budget : ℕ) (lines : List Line) : Type 0 where
  pub before : List Line
  pub id : ℕ
  pub hints : List ℕ
  pub ends : lines ≡ before ++ Add id [] hints ∷ []
  pub within : length before ≤ budget
  pub learnt : AreLearnt f before
  pub accepted : IsAccepted f lines

-- the budget is spent: just so many learnt additions, and unit propagation does not refute what is held with them
pub record IsSpent (f : Formula) (budget : ℕ) (lines : List Line) : Type 0 where
  pub exact : length lines ≡ budget
  pub learnt : AreLearnt f lines
  pub accepted : IsAccepted f lines
  pub unrefuted : IsPropagationConsistent (after_lines (held_of f) lines)
