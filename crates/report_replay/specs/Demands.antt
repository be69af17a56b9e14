-- What is asked of the lines of a printed report, in their order.
use Rattle.std.specs.Prelude.{ℕ, ◌+◌, Bool, true, false, not, ◌==◌, List, [], ◌∷◌, ◌++◌, length, map}
use Rattle.std.specs.Prelude.{reverse, Option, Some, None, slice_get}
use Rattle.std.specs.List.{list_all}
use Rattle.fol_sig.specs.Tables.{Tables, relation_at, function_at, rel_at, fun_at, reading}
use Rattle.fol_sig.specs.Tuples.{tuples}
use Rattle.fol_formula.specs.Syntax.{FormTree}
use Rattle.fol_formula.specs.Truth.{truth, same_truth}
use Rattle.base.specs.Lists.{count_from}
use Rattle.fol_formula.specs.Sentences.{satisfies}
use Rattle.rml_command.specs.Outcomes.{Outcome, ended, aborted}
use Rattle.rml_command.specs.Models.{ModelTree}
use Rattle.rml_command.specs.Goals.{body_of}
use Rattle.rml_command.specs.declared.goal.Stage.{Stage}
use Rattle.rml_command.specs.declared.goal.Stage.TheVariants as stage
use Rattle.rml_command.specs.declared.goal.About.{About}
use Rattle.rml_command.specs.declared.goal.About.TheVariants as about
use Rattle.rml_exec.specs.declared.trace.Counterexample.{Counterexample}
use Rattle.rml_report.specs.ReportText.{outcome_of}
use Rattle.printed_report.specs.declared.printed.PrintedGroup.{PrintedGroup}
use Rattle.printed_report.specs.declared.printed.PrintedAnswer.{PrintedAnswer}
use Rattle.printed_report.specs.declared.printed.PrintedAnswer.TheVariants as answer
use Rattle.report_replay.specs.declared.denial.DenialCode.{DenialCode}
use Rattle.report_replay.specs.declared.denial.DenialCode.TheVariants as denial

-- what is asked of a line, the code that says that it is not so, and whether it is
pub record Demand : Type 0 where
  pub line : ℕ
  pub code : DenialCode
  pub met : Bool

-- how many lines the tables of a structure take
abbrev pub table_count : ModelTree → ℕ
table_count m = length m.signature.relations + length m.signature.functions

-- the lines of a group that fails: `before`, `havoc:`, the first of the tables behind `after`, and `values:`
abbrev pub before_line : PrintedGroup → ℕ
before_line g = g.line + 3

-- that of `havoc:`, behind the sorts and tables of the structure
abbrev pub havoc_line : ModelTree → PrintedGroup → ℕ
havoc_line m g = before_line g + m.signature.sorts + table_count m + 1

-- that of the first table behind `after`
abbrev pub end_line : ModelTree → PrintedGroup → ℕ
end_line m g = havoc_line m g + 2

-- the conjectures are asked for but before init
abbrev pub is_kept_before : ModelTree → Stage → Tables → Bool
is_kept_before m stage.Init s = true
is_kept_before m (stage.Action a) s = satisfies s m.conjectures
is_kept_before m stage.Final s = satisfies s m.conjectures

-- no step of the path is blocked
abbrev pub goes_through : Option Outcome → Bool
goes_through None = false
goes_through (Some o) = true

-- two structures of the same sizes have the same values
abbrev pub same_relation : Tables → Tables → ℕ → Bool
same_relation s t r =
    list_all (λ xs. same_truth (rel_at s r xs) (rel_at t r xs)) (tuples s.sizes (relation_at s r).sorts)

-- the same of the function f
abbrev pub same_function : Tables → Tables → ℕ → Bool
same_function s t f = list_all (λ xs. fun_at s f xs == fun_at t f xs) (tuples s.sizes (function_at s f).sorts)

-- each line of a table behind `after` is that of the path's end
abbrev pub relation_demands : Tables → Tables → ℕ → ℕ → ℕ → List Demand
relation_demands s t line k n =
    map (λ r. record { line = line + r; code = denial.WrongEnd; met = same_relation s t r }) (count_from k n)

-- the same of n functions from k on; the line is that of function 0
abbrev pub function_demands : Tables → Tables → ℕ → ℕ → ℕ → List Demand
function_demands s t line k n =
    map (λ f. record { line = line + f; code = denial.WrongEnd; met = same_function s t f }) (count_from k n)

-- the same of all tables, the first of which is on this line
abbrev pub table_demands : ModelTree → Tables → Tables → ℕ → List Demand
table_demands m s t line =
    relation_demands s t line 0 (length m.signature.relations)
    ++ function_demands s t (line + length m.signature.relations) 0 (length m.signature.functions)

-- the conjecture's body is false at the end under the values
abbrev pub is_broken : Option FormTree → Tables → List ℕ → Bool
is_broken None s values = false
is_broken (Some c) s values = not (truth (reading s) (body_of c) (reverse values))

-- what is asked of the lines behind `after`, where the path ends
abbrev pub end_demands : ModelTree → PrintedGroup → About → Counterexample → Option Tables → Option Outcome
    → List Demand
end_demands m g about.Abort shown after outcome = []
end_demands m g (about.Conjecture k) shown None outcome = []
end_demands m g (about.Conjecture k) shown (Some t) None = []
end_demands m g (about.Conjecture k) shown (Some t) (Some aborted) = []
end_demands m g (about.Conjecture k) shown (Some t) (Some (ended s)) =
    table_demands m t s (end_line m g)
    ++ record {
      line = end_line m g + table_count m;
      code = denial.NotBroken;
      met = is_broken (slice_get m.conjectures k) s shown.values;
    } ∷ []

-- what is asked behind the structure: no step is blocked, and the path ends as is said
abbrev pub outcome_demands : ModelTree → PrintedGroup → Counterexample → Option Tables → Option Outcome → List Demand
outcome_demands m g shown after outcome =
    record { line = havoc_line m g; code = denial.Blocked; met = goes_through outcome }
    ∷ end_demands m g g.about shown after outcome

-- The structure is one that induction allows; no step of the path is blocked; and it ends as is said.
abbrev pub execution_demands : ModelTree → PrintedGroup → Counterexample → Option Tables → List Demand
execution_demands m g shown after =
    record { line = before_line g; code = denial.AxiomIsFalse; met = satisfies shown.structure m.axioms }
    ∷ record { line = before_line g; code = denial.ConjectureIsFalse; met = is_kept_before m g.stage shown.structure }
    ∷ outcome_demands m g shown after (outcome_of m shown)

-- what is asked of the lines of a group with this answer: nothing, unless it shows an execution
abbrev pub answer_demands : ModelTree → PrintedGroup → PrintedAnswer → List Demand
answer_demands m g answer.Holds = []
answer_demands m g (answer.Fails paths shown after) = execution_demands m g shown after
answer_demands m g answer.Undecided = []

abbrev pub group_demands : ModelTree → PrintedGroup → List Demand
group_demands m g = answer_demands m g g.answer
