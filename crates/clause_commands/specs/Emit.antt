-- `emit FILE GOAL WHAT`: the clauses of a goal, or the log that refutes them.
use Rattle.std.specs.Prelude.{◌≡◌, ℕ, true, List, ◌++◌, length, Option, Some, None, codes, decimal}
use Rattle.cnf_base.specs.Formulas.{Formula}
use Rattle.cnf_base.specs.Writing as formulas
use Rattle.lrat_log.specs.declared.line.Line.{Line}
use Rattle.lrat_log.specs.Accepted.{IsAccepted, adds_empty}
use Rattle.lrat_log.specs.Logs.{IsLogOver}
use Rattle.lrat_log.specs.Writing as logs
use Rattle.base.specs.Lists.{numbered}
use Rattle.rml_command.specs.Models.{ModelTree}
use Rattle.rml_command.specs.Goals.{goals_of, HasNone}
use Rattle.rml_command.specs.declared.goal.Goal.{Goal}
use Rattle.rml_exec.specs.declared.trace.Counterexample.{Counterexample}
use Rattle.rml_wp.specs.Preconditions.{answered}
use Rattle.rml_report.specs.Words.{cause_text}
use Rattle.limits.specs.declared.cause.Cause.{Cause}
use Rattle.ea_decide.specs.GroundForm.{IsClauseForm}
use Rattle.limits.specs.Ceilings.{Ceilings}
use Rattle.obligation_decide.specs.GoalPassing.{refuting_sentence, PassesFirst}
use Rattle.goal_clauses.specs.GoalClauses.{AreClausesOf}
use Rattle.commands.specs.Due.{Due}
use Rattle.command_line.specs.declared.request.Emission.{Emission}
use Rattle.command_line.specs.declared.request.What.{What}
use Rattle.command_line.specs.declared.request.What.TheVariants as what
use Rattle.command_parts.specs.Limits.{ceilings_of}
use Rattle.command_parts.specs.ModelTexts.{IsTheModel, IsTheFault}
use Rattle.command_parts.specs.Saying.{on_out, on_err}
use Rattle.command_parts.specs.Faults.{model_fault_due}
use Rattle.clause_commands.specs.declared.emit.Emitted.{Emitted}
use Rattle.clause_commands.specs.declared.emit.Emitted.TheVariants.{Clauses, Refutation, Fails, Undecided, NoGoal}
use Rattle.clause_commands.specs.declared.emit.EmitAnswer.{EmitAnswer}
use Rattle.obligation_decide.specs.GoalDecisions.{IsFailing, IsLeftOpen}
use Rattle.clause_commands.specs.declared.emit.EmitAnswer.TheVariants as answer

-- `cnf`: the clauses of the goal, which say whether it has a counterexample, where it passes no limit by its size, and
-- which their text says; or the limit that it passes
abbrev pub AreClausesEmitted : Ceilings → ModelTree → Goal → Emitted → Type 0
AreClausesEmitted limits m goal (Clauses f) =
    PassesFirst limits m m.conjectures goal None × AreClausesOf m goal f × formulas.CanWrite f
AreClausesEmitted limits m goal (Undecided c) = PassesFirst limits m m.conjectures goal (Some c)
AreClausesEmitted limits m goal _ = ⊥

-- The goal passes no limit and has no counterexample, and the log, each line of which is accepted, refutes the clauses
-- of its refuting sentence; it can be read over them.
pub record IsRefutationOfGoal (limits : Ceilings) (m : ModelTree) (goal : Goal) (f : Formula) (lines : List Line) : Type
    0 where
  pub within : PassesFirst limits m m.conjectures goal None
  pub safe : HasNone m m.conjectures goal
  pub clauses : IsClauseForm (answered m goal) (refuting_sentence m goal) f
  pub accepted : IsAccepted f lines
  pub refutes : adds_empty lines ≡ true
  pub range : IsLogOver f.variables (length f.clauses) lines

-- the goal passes no limit, and has a counterexample
pub record FailsWithin (limits : Ceilings) (m : ModelTree) (goal : Goal) : Type 0 where
  pub within : PassesFirst limits m m.conjectures goal None
  pub shown : Counterexample
  pub fails : IsFailing limits m m.conjectures goal shown

-- `lrat`: the log that refutes the goal's clauses; or the goal fails; or it is left open
abbrev pub IsLogEmitted : Ceilings → ModelTree → Goal → Emitted → Type 0
IsLogEmitted limits m goal (Refutation f lines) = IsRefutationOfGoal limits m goal f lines
IsLogEmitted limits m goal Fails = FailsWithin limits m goal
IsLogEmitted limits m goal (Undecided c) = IsLeftOpen limits m m.conjectures goal c
IsLogEmitted limits m goal _ = ⊥

-- what is answered of the goal, where its clauses or a log is asked for
abbrev pub IsGoalEmitted : Ceilings → ModelTree → What → Goal → Emitted → Type 0
IsGoalEmitted limits m what.Cnf goal e = AreClausesEmitted limits m goal e
IsGoalEmitted limits m what.Lrat goal e = IsLogEmitted limits m goal e

-- the model has no goal of the number, but so many
abbrev pub IsNoGoal : ModelTree → Emitted → Type 0
IsNoGoal m (NoGoal goals) = goals ≡ length (goals_of m)
IsNoGoal m _ = ⊥

-- what is answered of the goal at a number
abbrev pub IsEmittedOf : Ceilings → ModelTree → What → Option Goal → Emitted → Type 0
IsEmittedOf limits m what None e = IsNoGoal m e
IsEmittedOf limits m what (Some goal) e = IsGoalEmitted limits m what goal e

-- what is answered of the text's model, and of its goal of this number
pub record IsEmitted (emission : Emission) (text : List ℕ) (e : Emitted) : Type 0 where
  pub model : ModelTree
  pub is_model : IsTheModel text model
  pub answer : IsEmittedOf (ceilings_of emission.limits) model emission.what (numbered (goals_of model) emission.goal) e

-- the answer for the text's one model, or the text's one fault
abbrev pub IsEmitAnswer : Emission → List ℕ → EmitAnswer → Type 0
IsEmitAnswer emission text (answer.Emitted e) = IsEmitted emission text e
IsEmitAnswer emission text (answer.Fault fault) = IsTheFault text fault

-- `goal N fails`
unfoldable pub fails_text : ℕ → List ℕ
fails_text number = codes "goal " ++ decimal number ++ codes " fails\n"

-- `goal N undecided CAUSE`
unfoldable pub undecided_text : ℕ → Cause → List ℕ
undecided_text number cause = codes "goal " ++ decimal number ++ codes " undecided " ++ cause_text cause ++ codes "\n"

-- `there are K goals`
unfoldable pub no_goal_text : ℕ → List ℕ
no_goal_text goals = codes "there are " ++ decimal goals ++ codes " goals\n"

-- the text of the clauses or of the log; else what is said of the goal in their place
abbrev pub emitted_due : ℕ → Emitted → Due
emitted_due number (Clauses f) = on_out (formulas.text_of f) 0
emitted_due number (Refutation f lines) = on_out (logs.text_of lines) 0
emitted_due number Fails = on_err (fails_text number) 1
emitted_due number (Undecided c) = on_err (undecided_text number c) 3
emitted_due number (NoGoal goals) = on_err (no_goal_text goals) 4

-- what is due for the goal of this number
abbrev pub emit_due : ℕ → List ℕ → EmitAnswer → Due
emit_due number text (answer.Emitted e) = emitted_due number e
emit_due number text (answer.Fault fault) = model_fault_due text fault
