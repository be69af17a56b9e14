-- What the search for truth values ends with. Private contracts alone cite this.
use Rattle.std.specs.Prelude.{◌≡◌, ℕ, List}
use Rattle.cnf_base.specs.Formulas.{Formula, IsModel, IsUnsatisfiable}
use Rattle.lrat_log.specs.declared.line.Line.{Line}
use Rattle.lrat_log.specs.Refutations.{IsSpent}
use Rattle.ea_decide.specs.declared.searching.Searched.{Searched}
use Rattle.ea_decide.specs.declared.searching.Searched.TheVariants.{Refuted, Satisfied, Spent}

-- a proof that no truth values satisfy the clauses; or values that do; or the budget of conflicts was spent
abbrev pub IsSearched : Formula → ℕ → Searched → Type 0
IsSearched f budget (Refuted proof) = (proof.formula ≡ f) × IsUnsatisfiable f
IsSearched f budget (Satisfied values) = IsModel f values
IsSearched f budget Spent = (lines : List Line) × IsSpent f budget lines
