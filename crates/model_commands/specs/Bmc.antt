-- `bmc FILE --steps K`: whether some run with at most K actions aborts or breaks a conjecture.
use Rattle.std.specs.Prelude.{ℕ, List}
use Rattle.lean_decide.specs.declared.settling.Counted.{Counted}
use Rattle.rml_bmc.specs.Bounds.{IsBounded}
use Rattle.rml_bmc.specs.Lengths.{verdict_of}
use Rattle.rml_bmc.specs.declared.answer.Verdict.{Verdict}
use Rattle.rml_bmc.specs.declared.answer.Verdict.TheVariants as verdict
use Rattle.bounded_text.specs.BoundedText.{bounded_text}
use Rattle.commands.specs.Due.{Due}
use Rattle.command_line.specs.declared.request.Bound.{Bound}
use Rattle.command_parts.specs.Limits.{ceilings_of}
use Rattle.command_parts.specs.ModelTexts.{IsTheModel, IsTheFault}
use Rattle.command_parts.specs.Saying.{on_out}
use Rattle.command_parts.specs.Faults.{model_fault_due}
use Rattle.model_commands.specs.declared.bmc.BmcAnswer.{BmcAnswer}
use Rattle.model_commands.specs.declared.bmc.BmcAnswer.TheVariants.{Answered, Fault}

-- What is so of the runs of the text's one model with at most so many actions, where the limits are on these counts, or
-- the text's one fault.
abbrev pub IsBmcAnswer : Counted → Bound → List ℕ → BmcAnswer → Type 0
IsBmcAnswer counted bound text (Answered model bounded) =
    IsTheModel text model × IsBounded counted (ceilings_of bound.limits) model bound.steps bounded
IsBmcAnswer counted bound text (Fault fault) = IsTheFault text fault

-- 0 where each length is safe, 1 where one is broken, else 3
abbrev pub bounded_status : Verdict → ℕ
bounded_status verdict.Safe = 0
bounded_status verdict.NotSafe = 1
bounded_status verdict.Undecided = 3

-- the text of the lengths, with the status of their verdict; or the line of the fault
abbrev pub bmc_due : List ℕ → BmcAnswer → Due
bmc_due text (Answered model bounded) =
    on_out (bounded_text model bounded) (bounded_status (verdict_of bounded.lengths))
bmc_due text (Fault fault) = model_fault_due text fault
