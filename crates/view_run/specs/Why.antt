-- `why FILE`: which conjectures carry which group of goals, and what is shown of it.
use Rattle.std.specs.Prelude.{ℕ, Bool, true, false, if◌then◌else◌, List, codes}
use Rattle.std.specs.List.{list_any}
use Rattle.rml_command.specs.Models.{ModelTree}
use Rattle.limits.specs.Ceilings.{Ceilings}
use Rattle.rml_reasons.specs.declared.reason.Lack.TheVariants.{Fails, Open}
use Rattle.rml_reasons.specs.declared.reason.Carried.{Carried}
use Rattle.rml_reasons.specs.declared.reason.Carried.TheVariants.{By, Not}
use Rattle.model_reasons.specs.declared.reason.Reason.{Reason}
use Rattle.model_reasons.specs.Reasons.{AreReasons}
use Rattle.told_fault.specs.declared.reading.Reading.{Reading}
use Rattle.told_answers.specs.ReasonsText.{reasons_text}
use Rattle.json_outcome.specs.ReasonsData.{reasons_members}
use Rattle.commands.specs.Due.{Due}
use Rattle.command_parts.specs.ModelTexts.{IsTheModel, IsTheFault}
use Rattle.command_parts.specs.Saying.{on_out}
use Rattle.view_line.specs.declared.options.Form.{Form}
use Rattle.view_line.specs.declared.options.Form.TheVariants.{Told, Dot, Json}
use Rattle.view_run.specs.declared.why.WhyAnswer.{WhyAnswer}
use Rattle.view_run.specs.declared.why.WhyAnswer.TheVariants.{Reasons, Fault}
use Rattle.view_run.specs.Views.{line_of, fault_view}

-- The groups of the text's one model in order, each with conjectures that carry it, none of which can be left out, or
-- with what it lacks even where all are held; or the text's one fault.
abbrev pub IsWhyAnswer : Ceilings → List ℕ → WhyAnswer → Type 0
IsWhyAnswer limits text (Reasons m reasons) = IsTheModel text m × AreReasons limits m reasons
IsWhyAnswer limits text (Fault fault) = IsTheFault text fault

-- a goal of the group fails even where all conjectures are held
abbrev pub fails : Carried → Bool
fails (By needs) = false
fails (Not (Fails shown)) = true
fails (Not (Open goal c)) = false

-- no goal of the group fails where all conjectures are held, but one is left open
abbrev pub is_open : Carried → Bool
is_open (By needs) = false
is_open (Not (Fails shown)) = false
is_open (Not (Open goal c)) = true

-- 1 where a group fails, else 3 where one is left open, else 0
abbrev pub why_status : List Reason → ℕ
why_status reasons =
    if list_any (λ r. fails r.carried) reasons then 1
    else if list_any (λ r. is_open r.carried) reasons then 3
    else 0

-- the outcome as a JSON value, in a line
unfoldable pub reasons_line : List ℕ → ModelTree → List Reason → List ℕ
reasons_line file m reasons = line_of file (reasons_members m reasons)

-- a text, or a JSON value; no picture is asked for
abbrev pub reasons_view : Form → List ℕ → ModelTree → List Reason → List ℕ
reasons_view Told file m reasons = reasons_text m reasons
reasons_view Dot file m reasons = reasons_text m reasons
reasons_view Json file m reasons = reasons_line file m reasons

-- what is due on a sink, and the status: of the reasons, or of the text's fault
abbrev pub why_view : Form → List ℕ → List ℕ → Reading → WhyAnswer → Due
why_view form file text reading (Reasons m reasons) = on_out (reasons_view form file m reasons) (why_status reasons)
why_view form file text reading (Fault fault) = fault_view form (codes "why") file text fault reading
