-- The limit that a goal passes first is a function of the model, a refuting sentence with further parts says what its
-- own parts and these say, and the And of the axioms says whether they are consistent.
use Rattle.std.specs.Prelude.{◌≡◌, ◌↔◌, true, List, [], Option}
use Rattle.fol_sig.specs.Tables.{Tables, IsSignature}
use Rattle.fol_sig.specs.Symbols.{symbols}
use Rattle.fol_formula.specs.Syntax.{FormTree}
use Rattle.fol_formula.specs.Fits.{FitsForm}
use Rattle.rml_command.specs.Models.{ModelTree, FitsModel}
use Rattle.fol_formula.specs.Sentences.{all_of, is_true, satisfies}
use Rattle.rml_command.specs.Fragment.{IsChecked}
use Rattle.rml_command.specs.Goals.{IsGoal}
use Rattle.rml_command.specs.declared.goal.Goal.{Goal}
use Rattle.rml_wp.specs.declared.premises.Premises.{Premises}
use Rattle.rml_wp.specs.Preconditions.{refuting}
use Rattle.rml_wp.specs.Added.{refuting_where}
use Rattle.rml_report.specs.Reports.{AxiomsAre}
use Rattle.limits.specs.declared.cause.Cause.{Cause}
use Rattle.rml_report.specs.declared.report.Axioms.TheVariants.{Consistent, Inconsistent}
use Rattle.limits.specs.Ceilings.{Ceilings}
use Rattle.ea_decide.specs.Decisions.{HasNoModel}
use Rattle.obligation_decide.specs.Restricted.{with_parts}
use Rattle.obligation_decide.specs.WithConstants.{HoldsWithConstants}
use Rattle.obligation_decide.specs.GoalPassing.{PassesFirst}

-- Two answers to which limit a goal passes first, if it passes one, are equal.
abbrev pub FirstLimitIsOne : Type 0
FirstLimitIsOne = (limits : Ceilings) (m : ModelTree) (goal : Goal) (a b : Option Cause) → IsChecked m
    → IsSignature m.signature → IsGoal m goal
    → PassesFirst limits m m.conjectures goal a → PassesFirst limits m m.conjectures goal b → a ≡ b

-- A refuting sentence with further parts is the sentence with these in its And.
abbrev pub PartsAreAdded : Type 0
PartsAreAdded = (premises : Premises) (m : ModelTree) (more : List FormTree) (goal : Goal)
    → with_parts (refuting premises m m.conjectures goal) more ≡ refuting_where premises m m.conjectures more goal

-- A refuting sentence with further parts is true exactly where it is true without them and they are true.
abbrev pub PartsAreTrue : Type 0
PartsAreTrue = (premises : Premises) (m : ModelTree) (held more : List FormTree) (goal : Goal) (s : Tables)
    → (is_true s (refuting_where premises m held more goal) ≡ true)
    ↔ ((is_true s (refuting premises m held goal) ≡ true) × (satisfies s more ≡ true))

-- The And of a model's axioms is a sentence of the model. Where it has no model the axioms are inconsistent; where it
-- has one with constants in the place of its existentials, they are consistent.
pub record JudgesAxioms (m : ModelTree) : Type 0 where
  pub fits : FitsForm (symbols m.signature) [] (all_of m.axioms)
  pub inconsistent : HasNoModel m.signature (all_of m.axioms) → AxiomsAre m Inconsistent
  pub consistent : (t : Tables) → HoldsWithConstants m.signature (all_of m.axioms) t → AxiomsAre m Consistent

-- So it is of each model.
abbrev pub AxiomsAreJudged : Type 0
AxiomsAreJudged = (m : ModelTree) → FitsModel m → JudgesAxioms m
