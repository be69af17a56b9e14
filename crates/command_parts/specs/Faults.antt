-- The lines of faults and refusals.
use Rattle.std.specs.Prelude.{ℕ, List, ◌++◌, codes}
use Rattle.std.specs.Fmt.{decimal}
use Rattle.rml_lex.specs.Place.{line_of, column_of}
use Rattle.rml_lex.specs.FaultCodes as model
use Rattle.rml_lex.specs.declared.token.Fault.{Fault}
use Rattle.cnf_base.specs.FaultCodes as formula
use Rattle.lrat_log.specs.FaultCodes as log
use Rattle.lrat_log.specs.RefusalCodes as refusal
use Rattle.commands.specs.Due.{Due}
use Rattle.command_parts.specs.Saying.{on_err}
use Rattle.command_parts.specs.declared.fault_text.ReportCode.{ReportCode}
use Rattle.command_parts.specs.declared.fault_text.ReportCode.TheVariants.{Model, Formula, Log, Refusal}

-- the letter of the file in which the fault is, a model, a formula or a log; or that of a refused line of a log
abbrev pub letter_of : ReportCode → List ℕ
letter_of (Model code) = codes "F"
letter_of (Formula code) = codes "N"
letter_of (Log code) = codes "L"
letter_of (Refusal code) = codes "C"

-- the number behind the letter
abbrev pub number_of : ReportCode → ℕ
number_of (Model code) = model.number_of code
number_of (Formula code) = formula.number_of code
number_of (Log code) = log.number_of code
number_of (Refusal code) = refusal.number_of code

-- the words behind the place
abbrev pub text_of : ReportCode → List ℕ
text_of (Model code) = model.text_of code
text_of (Formula code) = formula.text_of code
text_of (Log code) = log.text_of code
text_of (Refusal code) = refusal.text_of code

-- `F1 at LINE:COLUMN: TEXT`
unfoldable pub fault_line : ReportCode → List ℕ → ℕ → List ℕ
fault_line code text at =
    letter_of code ++ decimal (number_of code) ++ codes " at " ++ decimal (line_of text at) ++ codes ":"
    ++ decimal (column_of text at) ++ codes ": " ++ text_of code ++ codes "\n"

-- what is due for a fault of a model's text
abbrev pub model_fault_due : List ℕ → Fault → Due
model_fault_due text fault = on_err (fault_line (Model fault.code) text fault.at) 4

-- `C1 at id ID: TEXT`
unfoldable pub refusal_line : ReportCode → ℕ → List ℕ
refusal_line code id =
    letter_of code ++ decimal (number_of code) ++ codes " at id " ++ decimal id ++ codes ": " ++ text_of code
    ++ codes "\n"
