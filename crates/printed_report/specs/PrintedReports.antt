-- Printed reports of a model: what each list of lines says, and the first line that no printed report has.
use Rattle.std.specs.Prelude.{◌≡◌, ℕ, ◌+◌, ◌<◌, ◌^◌, List, [], ◌∷◌, ◌++◌, length, codes, Option}
use Rattle.fol_sig.specs.Tables.{Tables}
use Rattle.rml_command.specs.Models.{ModelTree}
use Rattle.rml_command.specs.Goals.{groups_of}
use Rattle.rml_command.specs.declared.goal.Head.{Head}
use Rattle.rml_exec.specs.declared.trace.Counterexample.{Counterexample}
use Rattle.rml_report.specs.ReportText.{head_text, verdict_text}
use Rattle.printed_report.specs.Executions.{IsExecution}
use Rattle.printed_report.specs.Lines.{IsAxiomsLine, IsLeastLine, IsUndecidedLine, block_lines}
use Rattle.printed_report.specs.declared.printed.Printed.{Printed}
use Rattle.printed_report.specs.declared.printed.PrintedGroup.{PrintedGroup}
use Rattle.printed_report.specs.declared.printed.PrintedAnswer.{PrintedAnswer}
use Rattle.printed_report.specs.declared.printed.PrintedAnswer.TheVariants as answer
use Rattle.line_scan.specs.Lines.{lines_of}

-- the lines show this execution, with some line `least:`
pub record IsBlock (m : ModelTree) (group : Head) (paths : ℕ) (shown : Counterexample) (after : Option Tables)
    (lines : List (List ℕ)) : Type 0 where
  pub execution : IsExecution m group paths shown after
  pub least : List ℕ
  pub is_least : IsLeastLine m least
  pub text : lines ≡ block_lines m group.about paths least shown after

-- the line of a group's head, with these words behind it
abbrev pub head_line : ModelTree → Head → List ℕ → List ℕ
head_line m group words = head_text m.names group.stage group.about ++ words

-- the lines of a group say this of it
abbrev pub Says : ModelTree → Head → PrintedAnswer → List (List ℕ) → Type 0
Says m group answer.Holds lines = lines ≡ head_line m group (codes ": holds\n") ∷ []
Says m group (answer.Fails paths shown after) lines =
    (block : List (List ℕ)) × IsBlock m group paths shown after block
    × (lines ≡ head_line m group (codes ": fails\n") ∷ block)
Says m group answer.Undecided lines = (line : List ℕ) × IsUndecidedLine m group line × (lines ≡ line ∷ [])

-- the lines of the group, whose first has the number n
pub record IsGroup (m : ModelTree) (n : ℕ) (group : Head) (g : PrintedGroup) (lines : List (List ℕ)) : Type 0 where
  pub stage : g.stage ≡ group.stage
  pub about : g.about ≡ group.about
  pub line : g.line ≡ n
  pub answer : Says m group g.answer lines

-- those of each group, in order
abbrev pub AreGroups : ModelTree → ℕ → List Head → List PrintedGroup → List (List ℕ) → Type 0
AreGroups m n [] [] lines = lines ≡ []
AreGroups m n [] (g ∷ gs) lines = ⊥
AreGroups m n (group ∷ groups) [] lines = ⊥
AreGroups m n (group ∷ groups) (g ∷ gs) lines =
    (first : List (List ℕ)) × (rest : List (List ℕ)) × IsGroup m n group g first
    × AreGroups m (n + length first) groups gs rest × (lines ≡ first ++ rest)

-- The lines are a printed report of the model, and say this: the line of the axioms, those of each group of the model,
-- and the verdict.
pub record IsPrinted (m : ModelTree) (p : Printed) (lines : List (List ℕ)) : Type 0 where
  pub axioms : List ℕ
  pub is_axioms : IsAxiomsLine axioms
  pub middle : List (List ℕ)
  pub groups : AreGroups m 2 (groups_of m) p.groups middle
  pub text : lines ≡ axioms ∷ (middle ++ verdict_text p.verdict ∷ [])

-- A text is a printed report of the model that says this.
abbrev pub IsPrintedReport : ModelTree → List ℕ → Printed → Type 0
IsPrintedReport m text p = IsPrinted m p (lines_of text)

-- some printed report of the model begins with these lines
abbrev pub BeginsReport : ModelTree → List (List ℕ) → Type 0
BeginsReport m lines = (p : Printed) × (more : List (List ℕ)) × IsPrinted m p (lines ++ more)

-- behind lines that begin one, the first line that none has there, or the one that is missing
abbrev pub IsUnexpected : ModelTree → List (List ℕ) → List (List ℕ) → Type 0
IsUnexpected m before [] = (p : Printed) → IsPrinted m p before → ⊥
IsUnexpected m before (line ∷ more) = BeginsReport m (before ++ line ∷ []) → ⊥

-- line n, counted from 1, is that line: those before it begin a printed report
pub record IsUnread (m : ModelTree) (lines : List (List ℕ)) (n : ℕ) : Type 0 where
  pub before : List (List ℕ)
  pub rest : List (List ℕ)
  pub cut : lines ≡ before ++ rest
  pub place : n ≡ length before + 1
  pub begins : BeginsReport m before
  pub unexpected : IsUnexpected m before rest

-- what some printed report of the model says; no text has so many lines
abbrev pub IsRead : ModelTree → Printed → Type 0
IsRead m p = (lines : List (List ℕ)) × IsPrinted m p lines × (length lines < 2 ^ 63)
