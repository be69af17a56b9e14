-- A formula over the variables 1, 2, .., each of which stands for a variable of another formula.
use Rattle.std.specs.Prelude.{ℕ, ◌≡◌, List, length, map}
use Rattle.cnf_base.specs.Formulas.{Formula, IsFormula}
use Rattle.cnf_base.specs.Rising.{AreRising}
use Rattle.renumbering.specs.Named.{named_entry}

-- Under the names, which are variables of f and none twice, the clauses of `dense` are those of f.
pub record IsRenumbered (f dense : Formula) (names : List ℕ) : Type 0 where
  pub rising : AreRising f.variables 0 names
  pub variables : dense.variables ≡ length names
  pub formula : IsFormula dense
  pub clauses : map (named_entry names) dense.clauses ≡ f.clauses
