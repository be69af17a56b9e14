-- A log beside the clauses that are held.
use Rattle.std.specs.Prelude.{ℕ, ◌+◌, ◌≡◌, List, length, Some}
use Rattle.cnf_base.specs.declared.cnf.Entry.{Entry}
use Rattle.cnf_base.specs.declared.cnf.Entry.TheVariants.{Clause}
use Rattle.cnf_base.specs.Literals.{AreLiterals}
use Rattle.cnf_base.specs.Formulas.{Formula}
use Rattle.lrat_log.specs.declared.line.Line.{Line}
use Rattle.lrat_log.specs.Held.{held_of, after_lines, held_by}
use Rattle.lrat_log.specs.Accepted.{last_id}
use Rattle.lrat_log.specs.Learnt.{AreLearnt}
use Rattle.lrat_log.specs.Logs.{IsLogOver}

-- The lines are learnt additions to a formula, and the clauses `held` are those of the formula with what was learnt.
pub record IsLogged (f : Formula) (held : List Entry) (lines : List Line) : Type 0 where
  pub learnt : AreLearnt f lines
  pub after : (id : ℕ) → after_lines (held_of f) lines id ≡ held_by held id
  pub last : last_id (length f.clauses) lines ≡ length held
  pub count : length held ≡ length f.clauses + length lines
  pub log : IsLogOver f.variables (length f.clauses) lines
  pub over : (id : ℕ) (c : List ℕ) → held_by held id ≡ Some (Clause c) → AreLiterals f.variables c
  pub formula : (id : ℕ) (e : Entry) → held_of f id ≡ Some e → held_by held id ≡ Some e
