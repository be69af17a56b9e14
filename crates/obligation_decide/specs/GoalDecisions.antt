-- What is answered of a goal, and of the axioms, and what shows it.
use Rattle.std.specs.Prelude.{◌≡◌, ◌≤◌, ℕ, List, sum, Some, None}
use Rattle.fol_sig.specs.Tables.{Tables}
use Rattle.fol_formula.specs.Syntax.{FormTree}
use Rattle.rml_command.specs.Models.{ModelTree}
use Rattle.fol_formula.specs.Sentences.{all_of}
use Rattle.rml_command.specs.Goals.{IsCounterexample, HasNone}
use Rattle.rml_command.specs.declared.goal.Goal.{Goal}
use Rattle.rml_command.specs.declared.havoc.Havoc.{Havoc}
use Rattle.rml_exec.specs.declared.trace.Counterexample.{Counterexample}
use Rattle.limits.specs.declared.cause.Cause.TheVariants as cause
use Rattle.rml_wp.specs.Preconditions.{answered, refuting}
use Rattle.limits.specs.declared.cause.Cause.{Cause}
use Rattle.rml_report.specs.declared.report.Axioms.{Axioms}
use Rattle.rml_report.specs.declared.report.Axioms.TheVariants as axioms
use Rattle.rml_report.specs.Reports.{AxiomsAre}
use Rattle.ea_decide.specs.declared.decided.Passed.{Passed}
use Rattle.limits.specs.Ceilings.{Ceilings}
use Rattle.ea_decide.specs.Passing.{Passes}
use Rattle.ea_decide.specs.Decisions.{Refutes, SpendsBudget, IsOver}
use Rattle.obligation_decide.specs.GoalPassing.{cause_of, PassesFirstAs}
use Rattle.obligation_decide.specs.declared.decision.Decision.{Decision}
use Rattle.obligation_decide.specs.declared.decision.Decision.TheVariants.{Holds, Fails, Undecided}
use Rattle.rml_wp.specs.declared.premises.Premises.TheVariants.{All}

-- The execution is a counterexample of the goal, where these sentences hold before the stage in place of the
-- conjectures. Its structure has at most so many elements as terms are allowed.
pub record IsFailing (limits : Ceilings) (m : ModelTree) (held : List FormTree) (goal : Goal) (shown : Counterexample)
    : Type 0 where
  pub same : shown.goal ≡ goal
  pub path : shown.trace.path ≡ goal.path
  pub refutes : IsCounterexample m held goal shown.structure shown.trace.havoc shown.values
  pub few : sum shown.structure.sizes ≤ limits.terms

-- A goal is left open that is decided by this refuting sentence: it passes no limit by its size, and the budget of
-- conflicts is spent on its clauses; or it passes this limit.
abbrev pub IsLeftOpenAs : Ceilings → ModelTree → Goal → FormTree → Cause → Type 0
IsLeftOpenAs limits m goal p (cause.Conflicts n) =
    PassesFirstAs limits m goal p None × (n ≡ limits.conflicts) × SpendsBudget (answered m goal) p n
IsLeftOpenAs limits m goal p c = PassesFirstAs limits m goal p (Some c)

-- The answer to a goal by this refuting sentence, where these are what it means that the goal holds, and that it fails.
abbrev pub IsDecisionAs : Ceilings → ModelTree → Goal → FormTree → Type 0 → (Counterexample → Type 0) → Decision
    → Type 0
IsDecisionAs limits m goal p holds fails (Holds proof) =
    PassesFirstAs limits m goal p None × holds × Refutes (answered m goal) p proof
IsDecisionAs limits m goal p holds fails (Fails shown) = PassesFirstAs limits m goal p None × fails shown
IsDecisionAs limits m goal p holds fails (Undecided c) = IsLeftOpenAs limits m goal p c

-- where these sentences hold before the stage
abbrev pub IsLeftOpen : Ceilings → ModelTree → List FormTree → Goal → Cause → Type 0
IsLeftOpen limits m held goal c = IsLeftOpenAs limits m goal (refuting All m held goal) c

-- The answer to a goal under limits, where these sentences hold before the stage in place of the conjectures.
abbrev pub IsDecision : Ceilings → ModelTree → List FormTree → Goal → Decision → Type 0
IsDecision limits m held goal d =
    IsDecisionAs limits m goal (refuting All m held goal) (HasNone m held goal) (IsFailing limits m held goal) d

-- whether some structure satisfies the axioms, decided as a sentence: their conjunction
abbrev pub AreAxiomsDecided : Ceilings → ModelTree → Axioms → Type 0
AreAxiomsDecided limits m axioms.Consistent =
    Passes limits m.signature (all_of m.axioms) None × AxiomsAre m axioms.Consistent
AreAxiomsDecided limits m axioms.Inconsistent =
    Passes limits m.signature (all_of m.axioms) None × AxiomsAre m axioms.Inconsistent
AreAxiomsDecided limits m (axioms.Undecided c) =
    (passed : Passed) × (c ≡ cause_of passed) × IsOver limits m.signature (all_of m.axioms) passed
