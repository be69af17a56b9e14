-- What the private functions that judge are given and give.
use Rattle.std.specs.Prelude.{◌≡◌, ℕ, ◌+◌, ◌≤◌, ◌^◌, List}
use Rattle.rml_command.specs.Models.{ModelTree}
use Rattle.fol_sig.specs.Tables.{Tables, InRange}
use Rattle.fol_sig.specs.Symbols.{Symbols, FitsStructure, symbols}
use Rattle.fol_formula.specs.Syntax.{FormTree}
use Rattle.fol_formula.specs.Fits.{FitsForm}
use Rattle.rml_command.specs.Goals.{leading_sorts}
use Rattle.rml_exec.specs.declared.trace.Followed.{Followed}
use Rattle.rml_exec.specs.declared.trace.Followed.TheVariants.{Ended, Aborted, Blocked}
use Rattle.printed_report.specs.Executions.{IsExecution}
use Rattle.printed_report.specs.declared.printed.PrintedGroup.{PrintedGroup}
use Rattle.printed_report.specs.declared.printed.PrintedAnswer.{PrintedAnswer}
use Rattle.printed_report.specs.declared.printed.PrintedAnswer.TheVariants as answer
use Rattle.report_replay.specs.declared.judged.Fault.{Fault}

-- what the answer shows, if it shows something, is an execution of the group, which can be followed
abbrev pub CanFollow : ModelTree → PrintedGroup → PrintedAnswer → Type 0
CanFollow m g answer.Holds = Unit {0}
CanFollow m g (answer.Fails paths shown after) = IsExecution m (record { stage = g.stage; about = g.about }) paths
    shown after
CanFollow m g answer.Undecided = Unit {0}

-- the group's line leaves room in 64 bits for those behind it, and what the group shows can be followed
pub record CanReplay (m : ModelTree) (g : PrintedGroup) : Type 0 where
  pub line : g.line ≤ 2 ^ 63 + 1
  pub answer : CanFollow m g g.answer

-- two structures of the same symbols and sizes
pub record AreAlike (m : ModelTree) (s t : Tables) : Type 0 where
  pub first : FitsStructure (symbols m.signature) s
  pub second : FitsStructure (symbols m.signature) t
  pub sizes : t.sizes ≡ s.sizes

-- what stands behind the leading run of `forall` may be evaluated under the values
pub record HasBody (s : Tables) (p : FormTree) (env values : List ℕ) : Type 0 where
  pub sig : Symbols
  pub sorts : List ℕ
  pub structure : FitsStructure sig s
  pub formula : FitsForm sig sorts p
  pub elements : InRange s.sizes sorts env
  pub in_range : InRange s.sizes (leading_sorts p) values

-- how a path ends: in a structure of these sizes
abbrev pub EndIsAlike : ModelTree → Tables → Followed → Type 0
EndIsAlike m s (Ended t) = AreAlike m s t
EndIsAlike m s Aborted = Unit {0}
EndIsAlike m s Blocked = Unit {0}
