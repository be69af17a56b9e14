-- A run that is shown in full.
use Rattle.std.specs.Prelude.{◌≡◌, true, List, [], ◌∷◌, length, map, MatchOption, Option, Some, None}
use Rattle.fol_sig.specs.Tables.{Tables}
use Rattle.fol_sig.specs.Symbols.{Symbols, FitsStructure, symbols}
use Rattle.rml_command.specs.Trees.{PrimitiveTree}
use Rattle.base.specs.Lists.{numbered}
use Rattle.rml_command.specs.Paths.{havoc_count}
use Rattle.fol_formula.specs.Sentences.{satisfies}
use Rattle.rml_command.specs.Outcomes.{Outcome, ended, aborted, follow_path}
use Rattle.rml_command.specs.Models.{ModelTree}
use Rattle.rml_command.specs.Goals.{stage_paths, FailsGoal}
use Rattle.rml_command.specs.Runs as runs
use Rattle.rml_command.specs.declared.goal.Stage.{Stage}
use Rattle.rml_command.specs.declared.goal.Stage.TheVariants as stage
use Rattle.walks.specs.declared.leg.Leg.{Leg}
use Rattle.walks.specs.declared.leg.Walk.{Walk}
use Rattle.walks.specs.Runs.{IsForbidden}
use Rattle.rml_bmc.specs.declared.answer.Part.{Part}
use Rattle.rml_bmc.specs.declared.answer.Run.{Run}

-- the end of a part, as an outcome
abbrev pub outcome_of : Option Tables → Outcome
outcome_of None = aborted
outcome_of (Some s) = ended s

-- an end is a structure of these symbols
abbrev pub EndFits : Symbols → Option Tables → Type 0
EndFits sig None = Unit {0}
EndFits sig (Some s) = FitsStructure sig s

-- the part's path, followed under its trace from this structure, ends in the part's end, or aborts where it has none
pub record IsPart (m : ModelTree) (s : Tables) (part : Part) : Type 0 where
  pub path : List PrimitiveTree
  pub is_path : numbered (stage_paths m part.stage) part.trace.path ≡ Some path
  pub count : length part.trace.havoc ≡ havoc_count path
  pub ends : follow_path m.axioms path part.trace.havoc s ≡ Some (outcome_of part.end)

-- each part goes on from the end of the one before; none stands behind an abort
abbrev pub AreParts : ModelTree → Tables → List Part → Type 0
AreParts m s [] = Unit {0}
AreParts m s (part ∷ parts) =
    IsPart m s part × MatchOption part.end (parts ≡ []) (λ end. AreParts m end parts)

-- the last outcome of parts, behind this one
abbrev pub last_from : Outcome → List Part → Outcome
last_from o [] = o
last_from o (part ∷ parts) = last_from (outcome_of part.end) parts

-- the outcome in which a run ends that begins in this structure; an end there where it has no part
abbrev pub last_outcome : Tables → List Part → Outcome
last_outcome s parts = last_from (ended s) parts

-- A run in full. It begins in a structure that satisfies the axioms. Where abort is forbidden its last part aborts, and
-- there are no values; else it ends where the conjecture's body is false under the values.
pub record IsShownRun (m : ModelTree) (run : Run) : Type 0 where
  pub structure : FitsStructure (symbols m.signature) run.start
  pub lawful : satisfies run.start m.axioms ≡ true
  pub parts : AreParts m run.start run.parts
  pub fails : FailsGoal m run.about run.values (Some (last_outcome run.start run.parts))

-- the path that the part takes
abbrev pub leg_of : Part → Leg
leg_of part = record { stage = part.stage; path = part.trace.path }

-- it goes along the goal's walk
pub record IsRunAlong (m : ModelTree) (walk : Walk) (run : Run) : Type 0 where
  pub legs : map leg_of run.parts ≡ walk.parts
  pub about : run.about ≡ walk.about
  pub shown : IsShownRun m run

-- the parts behind the first one, as steps of actions and perhaps an outcome of final
abbrev pub step_before : Stage → Outcome → List runs.Step → List runs.Step
step_before stage.Init o steps = steps
step_before (stage.Action a) o steps = record { action = a; outcome = o } ∷ steps
step_before stage.Final o steps = steps

-- the steps of actions among these parts, in order
abbrev pub steps_of : List Part → List runs.Step
steps_of [] = []
steps_of (part ∷ parts) = step_before part.stage (outcome_of part.end) (steps_of parts)

-- the outcome of this stage if it is final, else the other one
abbrev pub final_or : Stage → Outcome → Option Outcome → Option Outcome
final_or stage.Init o later = later
final_or (stage.Action a) o later = later
final_or stage.Final o later = Some o

-- the outcome of the first part of final, if there is one
abbrev pub final_of : List Part → Option Outcome
final_of [] = None
final_of (part ∷ parts) = final_or part.stage (outcome_of part.end) (final_of parts)

-- as a run of the model: the first part is init's
abbrev pub run_with : Tables → List Part → runs.Run
run_with s [] = record { start = s; first = ended s; steps = []; last = None }
run_with s (part ∷ parts) =
    record { start = s; first = outcome_of part.end; steps = steps_of parts; last = final_of parts }

-- the run that is shown, as a run of the model
abbrev pub run_of : Run → runs.Run
run_of run = run_with run.start run.parts

-- a run of the model that does what is forbidden, at its last part
pub record BreaksOff (m : ModelTree) (run : Run) : Type 0 where
  pub is_run : runs.IsRun m (run_of run)
  pub forbidden : IsForbidden m run.about (last_outcome run.start run.parts)
