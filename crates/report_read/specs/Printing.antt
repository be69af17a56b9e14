-- What is printed of a report, and which reports can be read back.
use Rattle.std.specs.Prelude.{◌≡◌, ℕ, ◌+◌, ◌==◌, Bool, true, false, if◌then◌else◌, List, [], ◌∷◌, ◌++◌, length, All}
use Rattle.std.specs.Prelude.{Option, Some, None, codes}
use Rattle.std.specs.List.{AllByRecursion}
use Rattle.fol_sig.specs.Tables.{Tables}
use Rattle.rml_command.specs.Models.{ModelTree}
use Rattle.rml_command.specs.Fragment.{IsChecked}
use Rattle.rml_command.specs.Outcomes.{Outcome, ended, aborted}
use Rattle.rml_command.specs.Trees.{PrimitiveTree, havoc, havoc_rel}
use Rattle.rml_command.specs.Goals.{goal_path, IsCounterexample}
use Rattle.rml_command.specs.declared.names.Names.{Names}
use Rattle.rml_command.specs.declared.havoc.Havoc.{Havoc}
use Rattle.rml_command.specs.declared.havoc.Havoc.TheVariants.{Element, Tuples}
use Rattle.rml_exec.specs.Steps.{havocs_after}
use Rattle.rml_exec.specs.declared.trace.Counterexample.{Counterexample}
use Rattle.rml_command.specs.declared.goal.About.{About}
use Rattle.rml_command.specs.declared.goal.About.TheVariants as about
use Rattle.rml_report.specs.ReportText.{head_text, undecided_text, least_line, outcome_of}
use Rattle.rml_report.specs.ReportText.{report_text}
use Rattle.rml_report.specs.Reports.{IsRefutation, Reports}
use Rattle.rml_report.specs.declared.report.Answer.{Answer}
use Rattle.rml_report.specs.declared.report.Answer.TheVariants as reported
use Rattle.rml_report.specs.declared.report.Group.{Group}
use Rattle.rml_report.specs.declared.report.Report.{Report}
use Rattle.printed_report.specs.Executions.{IsSize, listed}
use Rattle.printed_report.specs.Lines.{IsCause, IsAxioms, IsLeast, block_lines}
use Rattle.printed_report.specs.PrintedReports.{IsPrintedReport}
use Rattle.printed_report.specs.declared.printed.Printed.{Printed}
use Rattle.printed_report.specs.declared.printed.PrintedGroup.{PrintedGroup}
use Rattle.printed_report.specs.declared.printed.PrintedAnswer.{PrintedAnswer}
use Rattle.printed_report.specs.declared.printed.PrintedAnswer.TheVariants as answer

-- what a step of a path finds in the entries that are left, with the tuples of a relation in order
abbrev pub entry_in_order : Tables → PrimitiveTree → List Havoc → List Havoc
entry_in_order s (havoc v) (Element x ∷ hs) = Element x ∷ []
entry_in_order s (havoc_rel r) (Tuples xss ∷ hs) = Tuples (listed s r xss) ∷ []
entry_in_order s q hs = []

-- what its steps find
abbrev pub in_order : Tables → List PrimitiveTree → List Havoc → List Havoc
in_order s [] hs = []
in_order s (q ∷ qs) hs = entry_in_order s q hs ++ in_order s qs (havocs_after q hs)

-- what the steps of a path find, if there is one
abbrev pub in_order_along : Tables → Option (List PrimitiveTree) → List Havoc → List Havoc
in_order_along s None hs = []
in_order_along s (Some path) hs = in_order s path hs

-- what is shown, as it is printed: with the entries that its path finds, each table's tuples in order
abbrev pub printed_shown : ModelTree → Counterexample → Counterexample
printed_shown m shown = record {
  structure = shown.structure;
  trace = record {
    path = shown.trace.path;
    havoc = in_order_along shown.structure (goal_path m shown.goal) shown.trace.havoc;
  };
  goal = shown.goal;
  values = shown.values;
}

-- the end that is printed; an abort has none
abbrev pub end_of : About → Option Outcome → Option Tables
end_of about.Abort o = None
end_of (about.Conjecture k) None = None
end_of (about.Conjecture k) (Some aborted) = None
end_of (about.Conjecture k) (Some (ended s)) = Some s

-- what is read back of an answer: not whether the numbers are least, nor the path and the cause of an open one
abbrev pub printed_answer : ModelTree → About → Answer → PrintedAnswer
printed_answer m a reported.Holds = answer.Holds
printed_answer m a (reported.Fails paths least shown) =
    answer.Fails paths (printed_shown m shown) (end_of a (outcome_of m shown))
printed_answer m a (reported.Undecided path cause) = answer.Undecided

-- the lines of a group, of which the first begins with its head
abbrev pub answer_lines : ModelTree → About → List ℕ → Answer → List (List ℕ)
answer_lines m a head reported.Holds = (head ++ codes ": holds\n") ∷ []
answer_lines m a head (reported.Fails paths least shown) =
    (head ++ codes ": fails\n")
    ∷ block_lines m a paths (least_line m.names least) (printed_shown m shown) (end_of a (outcome_of m shown))
answer_lines m a head (reported.Undecided path cause) = (head ++ undecided_text path cause) ∷ []

-- the lines of one group, from its head on
abbrev pub group_lines : ModelTree → Group → List (List ℕ)
group_lines m g = answer_lines m g.about (head_text m.names g.stage g.about) g.answer

-- the groups, of which the first has its head on line n
abbrev pub printed_groups : ModelTree → ℕ → List Group → List PrintedGroup
printed_groups m n [] = []
printed_groups m n (g ∷ gs) =
    record { stage = g.stage; about = g.about; line = n; answer = printed_answer m g.about g.answer }
    ∷ printed_groups m (n + length (group_lines m g)) gs

-- what is read back of a report; the head of the first group is on line 2, behind that of the axioms
abbrev pub printed : ModelTree → Report → Printed
printed m r = record { verdict = r.verdict; groups = printed_groups m 2 r.groups }

-- no line feed
abbrev pub is_plain : List ℕ → Bool
is_plain [] = true
is_plain (b ∷ bs) = if b == 10 then false else is_plain bs

-- no name has a line feed
abbrev pub ArePlain : List (List ℕ) → Type 0
ArePlain names = AllByRecursion (λ name. is_plain name ≡ true) names

-- no name of the model has a line feed
pub record HasPlainNames (names : Names) : Type 0 where
  pub sorts : ArePlain names.sorts
  pub relations : ArePlain names.relations
  pub functions : ArePlain names.functions
  pub conjectures : ArePlain names.conjectures
  pub actions : ArePlain names.actions

-- sizes and numbers are not larger than a printed report may have them
abbrev pub CanPrint : ModelTree → Answer → Type 0
CanPrint m reported.Holds = Unit {0}
CanPrint m (reported.Fails paths least shown) = All IsSize shown.structure.sizes × IsLeast m least
CanPrint m (reported.Undecided path cause) = IsCause cause

-- a report whose text can be read back: no name has a line feed, and its numbers may be printed
pub record CanBeRead (m : ModelTree) (r : Report) : Type 0 where
  pub names : HasPlainNames m.names
  pub axioms : IsAxioms r.axioms
  pub groups : AllByRecursion (λ (g : Group). CanPrint m g.answer) r.groups

-- The text of a right report is a printed report, and says what is printed of it.
abbrev pub ReportsArePrinted : Type 0
ReportsArePrinted = (m : ModelTree) (r : Report) → IsChecked m → Reports m r → CanBeRead m r
    → IsPrintedReport m (report_text m r) (printed m r)

-- What is printed of a counterexample is one, and its path ends as before.
pub record IsShownAlike (m : ModelTree) (shown : Counterexample) : Type 0 where
  pub refutes : IsCounterexample m m.conjectures shown.goal shown.structure (printed_shown m shown).trace.havoc
      shown.values
  pub ends : outcome_of m (printed_shown m shown) ≡ outcome_of m shown

-- So it is of each counterexample that is shown of a checked model.
abbrev pub PrintedIsShown : Type 0
PrintedIsShown = (m : ModelTree) (shown : Counterexample) → IsChecked m → IsRefutation m shown → IsShownAlike m shown
