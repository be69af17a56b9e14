-- The lines of printed reports. Each ends with its line feed.
use Rattle.std.specs.Prelude.{◌≡◌, ℕ, ◌<◌, ◌≤◌, List, [], ◌∷◌, ◌++◌, length, map, codes, Option, Some, None}
use Rattle.fol_sig.specs.Tables.{Tables, size_at}
use Rattle.base.specs.Lists.{count_from}
use Rattle.rml_command.specs.Models.{ModelTree}
use Rattle.rml_command.specs.Goals.{IsGoal, goal_path}
use Rattle.rml_command.specs.declared.names.Names.{Names}
use Rattle.rml_command.specs.declared.goal.Head.{Head}
use Rattle.rml_command.specs.declared.goal.About.{About}
use Rattle.rml_command.specs.declared.goal.About.TheVariants as about
use Rattle.rml_exec.specs.declared.trace.Counterexample.{Counterexample}
use Rattle.rml_report.specs.Words.{numbers_line}
use Rattle.rml_report.specs.HavocText.{havoc_line}
use Rattle.rml_report.specs.TableText.{sort_line, relation_line, function_line}
use Rattle.rml_report.specs.ReportText.{head_text, path_line, least_line, undecided_text, axioms_text}
use Rattle.rml_report.specs.Reports.{goal_at}
use Rattle.rml_report.specs.declared.least.Bound.{Bound}
use Rattle.rml_report.specs.declared.least.Bound.TheVariants as at
use Rattle.limits.specs.declared.cause.Cause.{Cause}
use Rattle.limits.specs.declared.cause.Cause.TheVariants as cause
use Rattle.rml_report.specs.declared.least.Least.{Least}
use Rattle.rml_report.specs.declared.least.Least.TheVariants as least
use Rattle.rml_report.specs.declared.report.Axioms.{Axioms}
use Rattle.rml_report.specs.declared.report.Axioms.TheVariants as axioms
use Rattle.printed_report.specs.Executions.{IsSize}

-- the greatest number
abbrev pub IsNumber : ℕ → Type 0
IsNumber n = n ≤ 18446744073709551615

-- a cause whose number is one
abbrev pub IsCause : Cause → Type 0
IsCause cause.Formula = Unit {0}
IsCause (cause.Terms n) = IsNumber n
IsCause (cause.Ground n) = IsNumber n
IsCause (cause.Conflicts n) = IsNumber n

-- and that has one
abbrev pub IsCounted : Cause → Type 0
IsCounted cause.Formula = ⊥
IsCounted (cause.Terms n) = IsNumber n
IsCounted (cause.Ground n) = IsNumber n
IsCounted (cause.Conflicts n) = IsNumber n

-- the axioms are never left open by a formula
abbrev pub IsAxioms : Axioms → Type 0
IsAxioms axioms.Consistent = Unit {0}
IsAxioms axioms.Inconsistent = Unit {0}
IsAxioms (axioms.Undecided c) = IsCounted c

-- a sort of the model and a size, or a relation of the model and a number of tuples
abbrev pub IsBound : ModelTree → Bound → ℕ → Type 0
IsBound m (at.Sort k) size = (k.0 < length m.names.sorts) × IsSize size
IsBound m (at.Rel r) size = (r.0 < length m.names.relations) × IsNumber size

-- nor is the search for least sizes and numbers of tuples, where it stops
abbrev pub IsLeast : ModelTree → Least → Type 0
IsLeast m least.Yes = Unit {0}
IsLeast m (least.Stopped bound size c) = IsBound m bound size × IsCounted c

-- the line of some answer about the axioms
pub record IsAxiomsLine (line : List ℕ) : Type 0 where
  pub axioms : Axioms
  pub can : IsAxioms axioms
  pub text : line ≡ axioms_text axioms

-- the line of some answer whether sizes and numbers of tuples are least
pub record IsLeastLine (m : ModelTree) (line : List ℕ) : Type 0 where
  pub least : Least
  pub can : IsLeast m least
  pub text : line ≡ least_line m.names least

-- a group that is left open at one of its paths
pub record IsUndecidedLine (m : ModelTree) (group : Head) (line : List ℕ) : Type 0 where
  pub path : ℕ
  pub cause : Cause
  pub goal : IsGoal m (goal_at group path)
  pub can : IsCause cause
  pub text : line ≡ head_text m.names group.stage group.about ++ undecided_text path cause

-- a line for each sort, with its size
abbrev pub sort_lines : Names → Tables → List (List ℕ)
sort_lines names s = map (λ k. sort_line names k (size_at s k)) (count_from 0 (length s.sizes))

-- each relation, then each function and variable
abbrev pub table_lines : Names → Tables → List (List ℕ)
table_lines names s =
    map (relation_line names s) (count_from 0 (length s.relations))
    ++ map (function_line names s) (count_from 0 (length s.functions))

-- how a path ends
abbrev pub end_lines : Names → About → List ℕ → Option Tables → List (List ℕ)
end_lines names about.Abort values after = codes "  aborts\n" ∷ []
end_lines names (about.Conjecture k) values None = []
end_lines names (about.Conjecture k) values (Some t) =
    codes "  after\n" ∷ (table_lines names t ++ numbers_line (codes "  values:") values ∷ [])

-- what is shown of a group that fails, behind its head
abbrev pub block_lines : ModelTree → About → ℕ → List ℕ → Counterexample → Option Tables → List (List ℕ)
block_lines m a paths least shown after =
    path_line shown.trace.path paths ∷ least ∷ codes "  before\n"
    ∷ (sort_lines m.names shown.structure ++ (table_lines m.names shown.structure
    ++ havoc_line shown.structure (goal_path m shown.goal) shown.trace.havoc ∷ end_lines m.names a shown.values after))
