-- What `emit` and `lrat` say together: with any solver between them they prove a goal.
use Rattle.std.specs.Prelude.{◌≡◌, ℕ, List, Ok}
use Rattle.cnf_base.specs.Formulas.{Formula}
use Rattle.cnf_base.specs.Reading.{read_of}
use Rattle.cnf_base.specs.Writing.{text_of, CanWrite}
use Rattle.rml_command.specs.Models.{ModelTree}
use Rattle.rml_command.specs.Goals.{HasNone}
use Rattle.rml_command.specs.declared.goal.Goal.{Goal}
use Rattle.goal_clauses.specs.GoalClauses.{AreClausesOf}
use Rattle.clause_commands.specs.Lrat.{IsRefutation}
use Rattle.clause_commands.specs.declared.lrat.LratAnswer.{LratAnswer}
use Rattle.clause_commands.specs.declared.lrat.LratAnswer.TheVariants.{Refuted}

-- where `lrat` finds that some log refutes a text of the goal's clauses, the goal has no counterexample
abbrev pub AcceptedLogProves : Type 0
AcceptedLogProves = (m : ModelTree) (goal : Goal) (f : Formula) (text log : List ℕ) (a : LratAnswer)
    → AreClausesOf m goal f → read_of text ≡ Ok f → IsRefutation text log a → a ≡ Refuted → HasNone m m.conjectures goal

-- the text that `emit` writes is one
abbrev pub WrittenIsRead : Type 0
WrittenIsRead = (f : Formula) → CanWrite f → read_of (text_of f) ≡ Ok f
