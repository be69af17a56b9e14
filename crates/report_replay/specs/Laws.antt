-- What a judgement means. A report is confirmed exactly where each execution that it shows is a counterexample of its
-- goal and ends as is printed, and its verdict is that of its groups; else the least line that says what is not so is
-- named, and the least code there.
use Rattle.std.specs.Prelude.{◌≡◌, ℕ, ◌<◌, ◌≤◌, false, List, length, Option, Some, None}
use Rattle.std.specs.List.{AllByRecursion}
use Rattle.base.specs.Lists.{SomeOf}
use Rattle.fol_sig.specs.Tables.{Tables, InRange, relation_at, function_at, rel_at, fun_at}
use Rattle.rml_command.specs.Outcomes.{ended, aborted}
use Rattle.rml_command.specs.Models.{ModelTree}
use Rattle.rml_command.specs.Goals.{IsCounterexample}
use Rattle.rml_exec.specs.declared.trace.Counterexample.{Counterexample}
use Rattle.rml_report.specs.ReportText.{outcome_of}
use Rattle.printed_report.specs.PrintedReports.{IsPrinted, IsRead}
use Rattle.printed_report.specs.declared.printed.Printed.{Printed}
use Rattle.printed_report.specs.declared.printed.PrintedAnswer.{PrintedAnswer}
use Rattle.printed_report.specs.declared.printed.PrintedAnswer.TheVariants as answer
use Rattle.report_replay.specs.DenialCodes.{number_of}
use Rattle.report_replay.specs.Demands.{Demand}
use Rattle.report_replay.specs.Judgements.{judgement, demands, verdict_demand, executions, verdict_of}
use Rattle.report_replay.specs.declared.denial.DenialCode.{DenialCode}
use Rattle.report_replay.specs.declared.judged.Judged.TheVariants.{Confirmed, Denied}

-- the tables are the same
pub record HasSameTables (m : ModelTree) (t s : Tables) : Type 0 where
  pub relations : (r : ℕ) → r < length m.signature.relations → (xs : List ℕ)
      → InRange t.sizes (relation_at t r).sorts xs → rel_at t r xs ≡ rel_at s r xs
  pub functions : (f : ℕ) → f < length m.signature.functions → (xs : List ℕ)
      → InRange t.sizes (function_at t f).sorts xs → fun_at t f xs ≡ fun_at s f xs

-- where an execution ends: it aborts, or in a structure with the printed tables
abbrev pub EndsAs : ModelTree → Counterexample → Option Tables → Type 0
EndsAs m shown None = outcome_of m shown ≡ Some aborted
EndsAs m shown (Some t) = (s : Tables) × (outcome_of m shown ≡ Some (ended s)) × HasSameTables m t s

-- what a group shows is a counterexample of its goal
pub record IsShown (m : ModelTree) (shown : Counterexample) (after : Option Tables) : Type 0 where
  pub refutes : IsCounterexample m m.conjectures shown.goal shown.structure shown.trace.havoc shown.values
  pub ends : EndsAs m shown after

-- so it is of what an answer shows, if it shows something
abbrev pub Shows : ModelTree → PrintedAnswer → Type 0
Shows m answer.Holds = Unit {0}
Shows m (answer.Fails paths shown after) = IsShown m shown after
Shows m answer.Undecided = Unit {0}

-- what the groups show are counterexamples that end as is printed, the verdict is that of the groups, and n of them
-- fail
pub record IsConfirmed (m : ModelTree) (p : Printed) (n : ℕ) : Type 0 where
  pub shows : AllByRecursion (λ g. Shows m g.answer) p.groups
  pub verdict : p.verdict ≡ verdict_of p.groups
  pub count : n ≡ executions p.groups

-- A report that is judged confirmed is so.
abbrev pub ConfirmedIsRight : Type 0
ConfirmedIsRight = (m : ModelTree) (p : Printed) (n : ℕ) → IsRead m p → judgement m p ≡ Confirmed n → IsConfirmed m p n

-- A report that is so is judged confirmed.
abbrev pub RightIsConfirmed : Type 0
RightIsConfirmed = (m : ModelTree) (p : Printed) (n : ℕ) → IsRead m p → IsConfirmed m p n → judgement m p ≡ Confirmed n

-- the demand is not met, and has this line and code
pub record IsBroken (line : ℕ) (code : DenialCode) (d : Demand) : Type 0 where
  pub unmet : d.met ≡ false
  pub line_is : d.line ≡ line
  pub code_is : d.code ≡ code

-- a demand that is not met has a later line, or this line and no smaller code
pub record IsNotBefore (line : ℕ) (code : DenialCode) (d : Demand) : Type 0 where
  pub behind : d.met ≡ false → line ≤ d.line
  pub same_line : d.met ≡ false → d.line ≡ line → number_of code ≤ number_of d.code

-- The demand of this line and code is not met, and none before it, by lines and on a line by codes.
pub record IsFirstBroken (ds : List Demand) (line : ℕ) (code : DenialCode) : Type 0 where
  pub broken : SomeOf (IsBroken line code) ds
  pub least : AllByRecursion (IsNotBefore line code) ds

-- The line and the code of a denial are those of the first demand that is not met.
abbrev pub DeniedIsLeast : Type 0
DeniedIsLeast = (m : ModelTree) (p : Printed) (line : ℕ) (code : DenialCode) → IsRead m p
    → judgement m p ≡ Denied line code
    → IsFirstBroken (demands m p) line code

-- the verdict is asked of the last line
abbrev pub VerdictIsLast : Type 0
VerdictIsLast = (m : ModelTree) (p : Printed) (lines : List (List ℕ)) → IsPrinted m p lines
    → (verdict_demand m p).line ≡ length lines
