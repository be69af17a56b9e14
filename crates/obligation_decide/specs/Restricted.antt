-- A goal where the structures must satisfy further sentences, as bounds on sizes: what is answered of it, and what of
-- the sentence by which it is decided.
use Rattle.std.specs.Prelude.{◌≡◌, ◌≤◌, ℕ, true, List, ◌∷◌, ◌++◌, sum, Option, None}
use Rattle.fol_sig.specs.Tables.{Tables}
use Rattle.fol_formula.specs.Syntax.{FormTree, conjunction, list_of_forms}
use Rattle.rml_command.specs.Models.{ModelTree}
use Rattle.fol_formula.specs.Sentences.{all_of, satisfies}
use Rattle.rml_command.specs.Goals.{IsCounterexample}
use Rattle.rml_command.specs.declared.goal.Goal.{Goal}
use Rattle.rml_command.specs.declared.havoc.Havoc.{Havoc}
use Rattle.rml_exec.specs.declared.trace.Counterexample.{Counterexample}
use Rattle.rml_wp.specs.declared.premises.Premises.{Premises}
use Rattle.rml_wp.specs.declared.premises.Premises.TheVariants.{All}
use Rattle.rml_wp.specs.Preconditions.{answered}
use Rattle.rml_wp.specs.Answered.{IsCutOfSatisfying}
use Rattle.rml_wp.specs.Added.{AreAdded, refuting_where}
use Rattle.limits.specs.declared.cause.Cause.{Cause}
use Rattle.ea_decide.specs.declared.decided.Passed.{Passed}
use Rattle.limits.specs.Ceilings.{Ceilings}
use Rattle.ea_decide.specs.Passing.{Passes}
use Rattle.ea_decide.specs.Decisions.{HasNoModel, Refutes, IsOver}
use Rattle.obligation_decide.specs.GoalPassing.{cause_of, PassesAs, PassesFirstAs}
use Rattle.obligation_decide.specs.GoalDecisions.{IsLeftOpenAs, IsDecisionAs, IsFailing}
use Rattle.obligation_decide.specs.declared.decision.Decision.{Decision}
use Rattle.obligation_decide.specs.declared.decision.Decision.TheVariants.{Holds, Fails, Undecided}

-- the And with further parts
abbrev pub with_parts : FormTree → List FormTree → FormTree
with_parts (conjunction ps) more = all_of (list_of_forms ps ++ more)
with_parts p more = all_of (p ∷ more)

-- The sentence is a refuting sentence of the goal, in which these axioms are premises behind a step, with further
-- parts, where some sentences hold before the stage in place of the conjectures.
pub record IsRefutingWith (premises : Premises) (m : ModelTree) (goal : Goal) (p : FormTree) : Type 0 where
  pub held : List FormTree
  pub more : List FormTree
  pub added : AreAdded m held more
  pub is : p ≡ refuting_where premises m held more goal

-- Whatever holds before the stage where the sentence is such a refuting sentence of the goal, with this trace and these
-- values the structure is a counterexample.
abbrev pub RefutesAs : Premises → ModelTree → Goal → FormTree → Tables → List Havoc → List ℕ → Type 0
RefutesAs premises m goal p s havocs values =
    (held more : List FormTree) → AreAdded m held more → p ≡ refuting_where premises m held more goal
    → IsCounterexample m held goal s havocs values

-- The execution is one, of the cut of a structure that satisfies the sentence. Private contracts alone cite this.
pub record IsSentenceFailing (limits : Ceilings) (premises : Premises) (m : ModelTree) (p : FormTree) (goal : Goal)
    (shown : Counterexample) : Type 0 where
  pub same : shown.goal ≡ goal
  pub path : shown.trace.path ≡ goal.path
  pub refutes : RefutesAs premises m goal p shown.structure shown.trace.havoc shown.values
  pub holds : IsCutOfSatisfying m goal p shown.structure
  pub few : sum shown.structure.sizes ≤ limits.terms

-- The answer to such a sentence, in which all axioms are premises. Private contracts alone cite this.
abbrev pub IsSentenceDecision : Ceilings → ModelTree → FormTree → Goal → Decision → Type 0
IsSentenceDecision limits m p goal (Holds proof) =
    Passes limits (answered m goal) p None × HasNoModel (answered m goal) p × Refutes (answered m goal) p proof
IsSentenceDecision limits m p goal (Fails shown) =
    Passes limits (answered m goal) p None × IsSentenceFailing limits All m p goal shown
IsSentenceDecision limits m p goal (Undecided c) =
    (passed : Passed) × (c ≡ cause_of passed) × IsOver limits (answered m goal) p passed

-- no counterexample of the goal is in a structure that satisfies these sentences
abbrev pub HasNoneWhere : ModelTree → List FormTree → Goal → Type 0
HasNoneWhere m more goal =
    (s : Tables) (havocs : List Havoc) (values : List ℕ) → IsCounterexample m m.conjectures goal s havocs values
    → satisfies s more ≡ true → ⊥

module _ (limits : Ceilings) (m : ModelTree) (more : List FormTree) (goal : Goal) where
  -- the refuting sentence with these parts
  abbrev pub RestrictedSentencePasses : Option Cause → Type 0
  RestrictedSentencePasses first =
      PassesAs limits (answered m goal) (refuting_where All m m.conjectures more goal) first

  -- the goal with these parts passes this limit first, or none
  abbrev pub RestrictedPassesFirst : Option Cause → Type 0
  RestrictedPassesFirst first = PassesFirstAs limits m goal (refuting_where All m m.conjectures more goal) first

  -- the goal with these parts is left open for this cause
  abbrev pub IsLeftOpenWhere : Cause → Type 0
  IsLeftOpenWhere c = IsLeftOpenAs limits m goal (refuting_where All m m.conjectures more goal) c

  -- this is a counterexample in such a structure
  abbrev pub IsFailingWhere : Counterexample → Type 0
  IsFailingWhere shown = IsFailing limits m m.conjectures goal shown × (satisfies shown.structure more ≡ true)

  -- The answer whether the goal has a counterexample in such a structure.
  abbrev pub IsRestrictedDecision : Decision → Type 0
  IsRestrictedDecision d =
      IsDecisionAs limits m goal (refuting_where All m m.conjectures more goal) (HasNoneWhere m more goal)
      IsFailingWhere d
