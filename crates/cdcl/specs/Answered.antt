-- What a solver answers.
use Rattle.std.specs.Prelude.{ℕ, List}
use Rattle.cnf_base.specs.Formulas.{Formula, IsModel}
use Rattle.lrat_log.specs.declared.line.Line.{Line}
use Rattle.lrat_log.specs.Refutations.{IsRefutation, IsSpent}
use Rattle.cdcl.specs.declared.solver.Answer.{Answer}
use Rattle.cdcl.specs.declared.solver.Answer.TheVariants as answer
use Rattle.cdcl.specs.declared.solver.Solved.{Solved}
use Rattle.cdcl.specs.declared.solver.Solved.TheVariants.{Sat, Unsat, Spent}

-- truth values that satisfy the formula; or the lines refute it within the budget, or spend the budget
abbrev pub IsAnswer : Formula → ℕ → List Line → Answer → Type 0
IsAnswer f budget lines (answer.Sat values) = IsModel f values
IsAnswer f budget lines answer.Unsat = IsRefutation f budget lines
IsAnswer f budget lines answer.Spent = IsSpent f budget lines

-- the same of an answer that has its log
abbrev pub IsSolved : Formula → ℕ → Solved → Type 0
IsSolved f budget (Sat values) = IsModel f values
IsSolved f budget (Unsat log) = IsRefutation f budget log
IsSolved f budget (Spent log) = IsSpent f budget log
