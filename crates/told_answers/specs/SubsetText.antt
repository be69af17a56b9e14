-- What is found of a model's conjectures as it is told: how many are kept, each drop with the execution that breaks it,
-- which are kept, and what is left open.
use Rattle.std.specs.Prelude.{ℕ, List, [], ◌++◌, length, Option, Some, None, codes}
use Rattle.std.specs.List.{flat_map}
use Rattle.rml_command.specs.Models.{ModelTree}
use Rattle.rml_command.specs.Goals.{stage_paths}
use Rattle.rml_command.specs.declared.names.Names.{Names}
use Rattle.rml_command.specs.declared.goal.Goal.{Goal}
use Rattle.rml_report.specs.Words.{name_at, labelled}
use Rattle.rml_report.specs.ReportText.{stage_text}
use Rattle.limits.specs.declared.cause.Cause.{Cause}
use Rattle.rml_houdini.specs.declared.houdini.Dropped.{Dropped}
use Rattle.rml_houdini.specs.declared.houdini.Houdini.{Houdini}
use Rattle.told_report.specs.NumberText.{two_numbered}
use Rattle.told_report.specs.InText.{TextTold}
use Rattle.told_report.specs.ExecutionText.{execution_text}
use Rattle.told_report.specs.ToldText.{path_text, undecided_text}

-- how many are kept; whether those are inductive is left open, where a goal of theirs is
abbrev pub verdict_line : ℕ → ℕ → Option (Goal × Cause) → List ℕ
verdict_line kept all None =
    two_numbered (codes "keeps ") kept (codes " of ") all
    (codes " conjectures, the greatest inductive set of them\n")
verdict_line kept all (Some first) =
    two_numbered (codes "undecided: keeps ") kept (codes " of ") all (codes " conjectures\n")

-- drops linked_down: action connect breaks it (path 1 of 2)
abbrev pub drop_head : ModelTree → Dropped → List ℕ
drop_head m d =
    labelled (codes "\ndrops ") (name_at m.names.conjectures d.conjecture) (codes ": ")
    ++ stage_text m.names d.shown.goal.stage ++ codes " breaks it"
    ++ path_text d.shown.trace.path (length (stage_paths m d.shown.goal.stage))

-- a conjecture that is dropped, and the execution that breaks it
unfoldable pub drop_text : ModelTree → TextTold → Dropped → List ℕ
drop_text m told d = drop_head m d ++ execution_text m told d.shown.goal.about d.shown

-- keeps linked_down
abbrev pub keep_line : Names → ℕ → List ℕ
keep_line names k = labelled (codes "keeps ") (name_at names.conjectures k) (codes "\n")

-- the goal that is left open, and the option to raise
abbrev pub open_line : Names → Option (Goal × Cause) → List ℕ
open_line names None = []
open_line names (Some first) = undecided_text names first.0.stage first.0.about first.0.path first.1

-- of a model and what is found of its conjectures
unfoldable pub subset_text : ModelTree → TextTold → Houdini → List ℕ
subset_text m told h =
    verdict_line (length h.kept) (length m.conjectures) h.unsettled ++ flat_map (drop_text m told) h.dropped
    ++ codes "\n" ++ flat_map (keep_line m.names) h.kept ++ open_line m.names h.unsettled
