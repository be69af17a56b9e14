-- `houdini FILE`: the greatest inductive set of the file's conjectures.
use Rattle.std.specs.Prelude.{ℕ, List, [], ◌∷◌, Option, Some, None}
use Rattle.rml_command.specs.declared.goal.Goal.{Goal}
use Rattle.limits.specs.declared.cause.Cause.{Cause}
use Rattle.limits.specs.Ceilings.{Ceilings}
use Rattle.rml_houdini.specs.declared.houdini.Dropped.{Dropped}
use Rattle.rml_houdini.specs.declared.houdini.Houdini.{Houdini}
use Rattle.lean_decide.specs.declared.settling.Counted.{Counted}
use Rattle.rml_houdini.specs.Greatest.{IsFound}
use Rattle.rml_houdini.specs.HoudiniText.{houdini_text}
use Rattle.commands.specs.Due.{Due}
use Rattle.command_parts.specs.ModelTexts.{IsTheModel, IsTheFault}
use Rattle.command_parts.specs.Saying.{on_out}
use Rattle.command_parts.specs.Faults.{model_fault_due}
use Rattle.model_commands.specs.declared.houdini.HoudiniAnswer.{HoudiniAnswer}
use Rattle.model_commands.specs.declared.houdini.HoudiniAnswer.TheVariants.{Found, Fault}

-- What was found of the text's one model, where the limits are on these counts, or the text's one fault.
abbrev pub IsHoudiniAnswer : Counted → Ceilings → List ℕ → HoudiniAnswer → Type 0
IsHoudiniAnswer counted limits text (Found model houdini) =
    IsTheModel text model × IsFound counted limits model houdini
IsHoudiniAnswer counted limits text (Fault fault) = IsTheFault text fault

-- 3 where a goal was left open, else 1 where a conjecture was dropped, else 0
abbrev pub houdini_status : List Dropped → Option (Goal × Cause) → ℕ
houdini_status dropped (Some first) = 3
houdini_status [] None = 0
houdini_status (d ∷ ds) None = 1

-- the text of what was found, with its status; or the line of the fault
abbrev pub houdini_due : List ℕ → HoudiniAnswer → Due
houdini_due text (Found model houdini) =
    on_out (houdini_text model houdini) (houdini_status houdini.dropped houdini.unsettled)
houdini_due text (Fault fault) = model_fault_due text fault
