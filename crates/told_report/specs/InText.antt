-- What is told by the text of a model, beside what the model and its executions tell.
use Rattle.std.specs.Prelude.{ℕ, List}
use Rattle.fol_sig.specs.Tables.{Tables}
use Rattle.rml_command.specs.Models.{ModelTree}
use Rattle.rml_command.specs.declared.goal.Stage.{Stage}

-- what is asked of the text while a report is told: functions of a path, of a structure, and of two
pub record TextTold : Type 0 where
  -- the lines of the branches that a path of a stage's block takes, by its number from 1
  pub lines : Stage → ℕ → List ℕ
  -- what the derived relations are in a structure
  pub facts : ModelTree → Tables → List ℕ
  -- what of them differs between two structures
  pub changes : ModelTree → Tables → Tables → List ℕ
