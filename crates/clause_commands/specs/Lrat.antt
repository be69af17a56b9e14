-- `lrat CNF LOG`: whether the log refutes the formula.
use Rattle.std.specs.Prelude.{◌≡◌, ℕ, ◌≤◌, List, length, codes, Option, Some, None, Result, Ok, Err, if◌then◌else◌}
use Rattle.cnf_base.specs.declared.text.CnfFault.{CnfFault}
use Rattle.cnf_base.specs.Formulas.{Formula, IsUnsatisfiable}
use Rattle.cnf_base.specs.Reading.{read_of}
use Rattle.lrat_log.specs.declared.line.Line.{Line}
use Rattle.lrat_log.specs.declared.text.LogFault.{LogFault}
use Rattle.lrat_log.specs.Held.{held_of}
use Rattle.lrat_log.specs.Accepted.{adds_empty}
use Rattle.lrat_log.specs.Reading as logs
use Rattle.lrat_check.specs.declared.checker.Refusal.{Refusal}
use Rattle.lrat_check.specs.Whole.{first_refusal}
use Rattle.clause_commands.specs.declared.lrat.LratAnswer.{LratAnswer}
use Rattle.clause_commands.specs.declared.lrat.LratAnswer.TheVariants as answer
use Rattle.commands.specs.Due.{Due}
use Rattle.command_parts.specs.Saying.{on_out, on_err}
use Rattle.command_parts.specs.Faults.{fault_line, refusal_line}
use Rattle.command_parts.specs.declared.fault_text.ReportCode.TheVariants as code

-- a file of clauses, or of a log, has at most so many bytes
abbrev pub clause_limit : ℕ
clause_limit = 268435456

-- the first line that is not accepted; or whether an empty addition is among the accepted lines
abbrev pub answer_to_lines : List Line → Option Refusal → LratAnswer
answer_to_lines lines (Some refusal) = answer.Refused refusal
answer_to_lines lines None = if adds_empty lines then answer.Refuted else answer.NotRefuted

-- the fault of the log's text, or what its lines show of the formula
abbrev pub answer_to_log : Formula → Result (List Line) LogFault → LratAnswer
answer_to_log f (Err fault) = answer.LogFault fault
answer_to_log f (Ok lines) = answer_to_lines lines (first_refusal (held_of f) lines)

-- the fault of the formula's text, or what this text of a log shows of the formula
abbrev pub answer_to_formula : Result Formula CnfFault → List ℕ → LratAnswer
answer_to_formula (Err fault) text = answer.CnfFault fault
answer_to_formula (Ok f) text = answer_to_log f (logs.read_of f.variables (length f.clauses) text)

-- the fault of the formula's text, that of the log's, the refusal of a line, or whether the log refutes the formula
abbrev pub refutation_of : List ℕ → List ℕ → LratAnswer
refutation_of formula text = answer_to_formula (read_of formula) text

-- the place of a fault stands in its text
abbrev pub IsPlaced : List ℕ → List ℕ → LratAnswer → Type 0
IsPlaced formula log (answer.CnfFault fault) = fault.at ≤ length formula
IsPlaced formula log (answer.LogFault fault) = fault.at ≤ length log
IsPlaced formula log _ = Unit {0}

-- The answer is the one that these texts have. Where it is that the log refutes, no truth values satisfy the formula.
pub record IsRefutation (formula log : List ℕ) (a : LratAnswer) : Type 0 where
  pub is : a ≡ refutation_of formula log
  pub unsatisfiable : a ≡ answer.Refuted → (f : Formula) → read_of formula ≡ Ok f → IsUnsatisfiable f
  pub places : IsPlaced formula log a

-- the verdict; or the line of the fault, or of the refusal
abbrev pub lrat_due : List ℕ → List ℕ → LratAnswer → Due
lrat_due formula log answer.Refuted = on_out (codes "verdict: refuted\n") 0
lrat_due formula log answer.NotRefuted = on_out (codes "verdict: not refuted\n") 1
lrat_due formula log (answer.CnfFault fault) = on_err (fault_line (code.Formula fault.code) formula fault.at) 4
lrat_due formula log (answer.LogFault fault) = on_err (fault_line (code.Log fault.code) log fault.at) 4
lrat_due formula log (answer.Refused refusal) = on_err (refusal_line (code.Refusal refusal.code) refusal.id) 4
