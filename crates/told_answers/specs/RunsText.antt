-- Bounded runs as they are told: the verdict, a run that breaks something, and what is left open.
use Rattle.std.specs.Prelude.{◌≡◌, ℕ, ◌+◌, ◌-◌, ◌==◌, if◌then◌else◌, List, [], ◌∷◌, ◌++◌, length, Option, Some, None}
use Rattle.std.specs.Prelude.{codes}
use Rattle.std.specs.List.{AllByRecursion}
use Rattle.std.specs.Fmt.{decimal}
use Rattle.fol_sig.specs.Tables.{Tables}
use Rattle.fol_sig.specs.Symbols.{FitsStructure, symbols}
use Rattle.rml_command.specs.Models.{ModelTree}
use Rattle.rml_command.specs.Goals.{stage_paths}
use Rattle.rml_command.specs.declared.names.Names.{Names}
use Rattle.rml_command.specs.declared.goal.About.{About}
use Rattle.rml_report.specs.ReportText.{stage_text}
use Rattle.rml_bmc.specs.Lengths.{verdict_of}
use Rattle.rml_bmc.specs.declared.answer.Part.{Part}
use Rattle.rml_bmc.specs.declared.answer.Run.{Run}
use Rattle.rml_bmc.specs.declared.answer.BoundCause.{BoundCause}
use Rattle.rml_bmc.specs.declared.answer.BoundCause.TheVariants as cause
use Rattle.rml_bmc.specs.declared.answer.Length.{Length}
use Rattle.rml_bmc.specs.declared.answer.Length.TheVariants as answer
use Rattle.rml_bmc.specs.declared.answer.Bounded.{Bounded}
use Rattle.rml_bmc.specs.declared.answer.Verdict.{Verdict}
use Rattle.rml_bmc.specs.declared.answer.Verdict.TheVariants as verdict
use Rattle.told_report.specs.NumberText.{numbered}
use Rattle.told_report.specs.CauseWords.{cause_line}
use Rattle.told_report.specs.InText.{TextTold}
use Rattle.told_report.specs.ExecutionText.{differences_text, state_text, step_text, after_text}
use Rattle.told_report.specs.ToldText.{fault_text, path_text}

-- the singular for 1 alone
abbrev pub unit_text : ℕ → List ℕ
unit_text n = if n == 1 then codes " action" else codes " actions"

-- 1 action or 2 actions, between two words
unfoldable pub actions_text : List ℕ → ℕ → List ℕ → List ℕ
actions_text before n behind = before ++ decimal n ++ unit_text n ++ behind

-- action connect (path 1 of 2)
abbrev pub part_head : ModelTree → Part → List ℕ
part_head m part =
    stage_text m.names part.stage ++ path_text part.trace.path (length (stage_paths m part.stage))

-- what has changed where a part ends; nothing is told of one that aborts
abbrev pub changes_until : ModelTree → TextTold → Tables → Option Tables → List ℕ
changes_until m told s None = []
changes_until m told s (Some end) = differences_text m told s end

-- a part that begins in this structure
unfoldable pub part_text : ModelTree → TextTold → Tables → Part → List ℕ
part_text m told s part =
    part_head m part ++ step_text m told.lines part.stage part.trace.path s part.trace.havoc
    ++ changes_until m told s part.end

-- where a part ends; where it aborts, the structure in which it begins
abbrev pub end_or : Tables → Option Tables → Tables
end_or s None = s
end_or s (Some end) = end

-- each part goes on from the end of the one before
abbrev pub parts_text : ModelTree → TextTold → Tables → List Part → List ℕ
parts_text m told s [] = []
parts_text m told s (part ∷ parts) = part_text m told s part ++ parts_text m told (end_or s part.end) parts

-- a run with 2 actions breaks linked_down
unfoldable pub run_head : Names → ℕ → About → List ℕ
run_head names k a = actions_text (codes "\na run with ") k (codes "") ++ fault_text names a

-- the structure in which it begins, its parts, and what is so where it ends
unfoldable pub run_text : ModelTree → TextTold → ℕ → Run → List ℕ
run_text m told k run =
    run_head m.names k run.about ++ codes "\n" ++ state_text m told run.start
    ++ parts_text m told run.start run.parts ++ after_text m run.start run.about run.values

-- a length that is broken
abbrev pub broken_text : ModelTree → TextTold → ℕ → Length → List ℕ
broken_text m told k answer.Safe = []
broken_text m told k (answer.Undecided c) = []
broken_text m told k (answer.Broken run) = run_text m told k run

-- why a length is left open: it has too many paths, or a goal of it passes a limit
abbrev pub bound_line : BoundCause → List ℕ
bound_line (cause.Paths n) =
    numbered (codes "they have ") n
    (codes " paths, more than are followed, whatever the options; leave out actions that the run does not need\n")
bound_line (cause.Goal place c) = cause_line (codes "") c

-- runs with 2 actions are left open: .., and the option to raise, if one helps
unfoldable pub open_line : ℕ → BoundCause → List ℕ
open_line k c = actions_text (codes "runs with ") k (codes " are left open: ") ++ bound_line c

-- a length that is left open
abbrev pub open_text : ℕ → Length → List ℕ
open_text k answer.Safe = []
open_text k (answer.Undecided c) = open_line k c
open_text k (answer.Broken run) = []

-- the lengths from k on
abbrev pub all_broken : ModelTree → TextTold → ℕ → List Length → List ℕ
all_broken m told k [] = []
all_broken m told k (l ∷ ls) = broken_text m told k l ++ all_broken m told (k + 1) ls

-- a line for each length from k on that is left open
abbrev pub all_open : ℕ → List Length → List ℕ
all_open k [] = []
all_open k (l ∷ ls) = open_text k l ++ all_open (k + 1) ls

-- lines behind an empty one, where there are any
abbrev pub set_off : List ℕ → List ℕ
set_off [] = []
set_off (b ∷ bs) = codes "\n" ++ (b ∷ bs)

-- the first line; k is the last length that was answered
abbrev pub verdict_line : Verdict → ℕ → List ℕ
verdict_line verdict.Safe k = actions_text (codes "safe up to ") k (codes "\n")
verdict_line verdict.NotSafe k = codes "not safe\n"
verdict_line verdict.Undecided k = codes "undecided\n"

-- The lengths 0, 1, .. were answered. Told are the verdict, the run that is broken, and the lengths that are left open.
unfoldable pub runs_text : ModelTree → TextTold → Bounded → List ℕ
runs_text m told b =
    verdict_line (verdict_of b.lengths) (length b.lengths - 1) ++ all_broken m told 0 b.lengths
    ++ set_off (all_open 0 b.lengths)

-- an end has the model's symbols, and the sizes of the structure in which the run begins
abbrev pub EndIsAlike : ModelTree → List ℕ → Option Tables → Type 0
EndIsAlike m sizes None = Unit {0}
EndIsAlike m sizes (Some end) = FitsStructure (symbols m.signature) end × (end.sizes ≡ sizes)

-- a run can be told
pub record CanTellRun (m : ModelTree) (run : Run) : Type 0 where
  pub start : FitsStructure (symbols m.signature) run.start
  pub ends : AllByRecursion (λ part. EndIsAlike m run.start.sizes part.end) run.parts

-- the answer to a length can be
abbrev pub CanTell : ModelTree → Length → Type 0
CanTell m answer.Safe = Unit {0}
CanTell m (answer.Undecided c) = Unit {0}
CanTell m (answer.Broken run) = CanTellRun m run
