-- A refuting sentence with further parts: where it is true, and what its answer says of the goal.
use Rattle.std.proofs.Common.{
  ◌≡◌,
  true,
  false,
  List,
  [],
  ◌∷◌,
  ◌++◌,
  Option,
  Some,
  None,
  refl,
  sym,
  ap,
  ◌∙◌,
  subst,
}
use Rattle.std.specs.Prelude.{MatchBool}
use Rattle.std.proofs.lemmas.Bool.{and_parts, and_from}
use Rattle.fol_sig.specs.Tables.{Declared, Tables, IsSignature, Reading, reading}
use Rattle.std.specs.List.{AllByRecursion}
use Rattle.fol_sig.specs.Symbols.{Symbols, FitsStructure, symbols}
use Rattle.fol_sig.specs.Constants.{reduct}
use Rattle.fol_formula.specs.Syntax.{FormTree, forms_of, list_of_forms}
use Rattle.fol_formula.specs.Truth.{truth, all_true}
use Rattle.fol_formula.specs.Fits.{FitsForm, FitsForms}
use Rattle.fol_nnf.specs.Normal.{normal}
use Rattle.fol_nnf.specs.Laws.{TruthIsKept}
use Rattle.skolem.specs.Laws.{EachIsSkolemised, IsModel}
use Rattle.rml_command.specs.Models.{ModelTree, FitsModel}
use Rattle.fol_formula.specs.Sentences.{all_of, is_true, satisfies}
use Rattle.rml_command.specs.Goals.{IsGoal}
use Rattle.rml_command.specs.declared.goal.Goal.{Goal}
use Rattle.rml_wp.specs.declared.premises.Premises.TheVariants.{All}
use Rattle.rml_wp.specs.declared.premises.Premises.{Premises}
use Rattle.rml_wp.specs.Preconditions.{answered, goal_passes_limit, refuting_parts, refuting}
use Rattle.rml_wp.specs.Answered.{IsAnswered, CounterexamplesAreCuts}
use Rattle.rml_wp.specs.Added.{AreAdded, refuting_where, NoPartsAreAdded}
use Rattle.rml_exec.specs.declared.trace.Counterexample.{Counterexample}
use Rattle.limits.specs.declared.cause.Cause.{Cause}
use Rattle.limits.specs.declared.cause.Cause.TheVariants as cause
use Rattle.ea_decide.specs.declared.decided.Passed.{Passed}
use Rattle.limits.specs.Ceilings.{Ceilings}
use Rattle.ea_decide.specs.Passing.{Passes}
use Rattle.ea_decide.specs.Decisions.{Refutes, SpendsBudget}
use Rattle.obligation_decide.specs.GoalPassing.{first_cause}
use Rattle.obligation_decide.specs.Laws.{PartsAreTrue}
use Rattle.obligation_decide.specs.WithConstants.{HoldsWithConstants}
use Rattle.obligation_decide.specs.Restricted.{with_parts, IsSentenceFailing, IsSentenceDecision}
use Rattle.obligation_decide.specs.Restricted.{RestrictedSentencePasses}
use Rattle.obligation_decide.specs.Restricted.{RestrictedPassesFirst, IsLeftOpenWhere, IsRestrictedDecision}
use Rattle.obligation_decide.specs.Costs.{IsSentenceMeasured, IsRestrictedMeasured}
use Rattle.obligation_decide.specs.declared.decision.Decision.{Decision}
use Rattle.obligation_decide.specs.declared.decision.Decision.TheVariants.{Holds, Fails, Undecided}
use Rattle.obligation_decide.specs.declared.decision.Measured.{Measured}
use Rattle.obligation_decide.specs.declared.decision.Measured.TheVariants.{Within, Over}
use Rattle.obligation_decide.proofs.Leaving.{passes_first, left_open}
use Rattle.obligation_decide.specs.GoalDecisions.{IsFailing, IsDecision}

same-list : (ps : List FormTree) → list_of_forms (forms_of ps) ≡ ps
same-list [] = refl
same-list (p ∷ ps) = ap (λ qs. p ∷ qs) (same-list ps)

-- the refuting sentence with further parts in its And
pub restricted_is : (premises : Premises) (m : ModelTree) (more : List FormTree) (goal : Goal)
    → with_parts (refuting premises m m.conjectures goal) more ≡ refuting_where premises m m.conjectures more goal
restricted_is premises m more goal =
    ap (λ (qs : List FormTree). all_of (qs ++ more)) (same-list (refuting_parts premises m m.conjectures goal))

-- sentences are all true where the first of them are, and the others
both-true : (s : Reading) (ps qs : List FormTree) → all_true s (forms_of ps) [] ≡ true
    → all_true s (forms_of qs) [] ≡ true
    → all_true s (forms_of (ps ++ qs)) [] ≡ true
both-true s [] qs h k = k
both-true s (p ∷ ps) qs h k =
    let parts = and_parts (truth s p []) (all_true s (forms_of ps) []) h in
    and_from (truth s p []) (all_true s (forms_of (ps ++ qs)) []) parts.0 (both-true s ps qs parts.1 k)

others-true : (s : Reading) (ps qs : List FormTree) → all_true s (forms_of (ps ++ qs)) [] ≡ true
    → all_true s (forms_of qs) [] ≡ true
others-true s [] qs h = h
others-true s (p ∷ ps) qs h =
    others-true s ps qs (and_parts (truth s p []) (all_true s (forms_of (ps ++ qs)) []) h).1

first-true : (s : Reading) (ps qs : List FormTree) → all_true s (forms_of (ps ++ qs)) [] ≡ true
    → all_true s (forms_of ps) [] ≡ true
first-true s [] qs h = refl
first-true s (p ∷ ps) qs h =
    let parts = and_parts (truth s p []) (all_true s (forms_of (ps ++ qs)) []) h in
    and_from (truth s p []) (all_true s (forms_of ps) []) parts.0 (first-true s ps qs parts.1)

pub parts_are_true : PartsAreTrue
parts_are_true premises m held more goal s =
    let parts = refuting_parts premises m held goal in (
      (λ h. (first-true (reading s) parts more h, others-true (reading s) parts more h)),
      (λ h. both-true (reading s) parts more h.0 h.1),
    )

-- without its constants a model of the sentence is a structure of the signature, and satisfies it
pub without-constants : EachIsSkolemised → (sig : Declared) (p : FormTree) (t : Tables)
    → FitsForm (symbols sig) [] (normal true p) → HoldsWithConstants sig p t
    → IsModel (symbols sig) (normal true p) (reduct (symbols sig) t)
without-constants skolem sig p t fits model = (skolem sig (normal true p) fits).models.without t model

pub holds-without : TruthIsKept → EachIsSkolemised → (sig : Declared) (p : FormTree) (t : Tables)
    → FitsForm (symbols sig) [] (normal true p) → HoldsWithConstants sig p t
    → is_true (reduct (symbols sig) t) p ≡ true
holds-without kept skolem sig p t fits model =
    sym (kept (reading (reduct (symbols sig) t)) true p []) ∙ (without-constants skolem sig p t fits model).holds

-- what is known of refuting sentences
pub record AreExact : Type 0 where
  pub cuts : CounterexamplesAreCuts

-- sentences of the model are all true in a structure exactly where they are in its cut
all-fit : (sig : Symbols) (ps : List FormTree) → AllByRecursion (FitsForm sig []) ps → FitsForms sig [] (forms_of ps)
all-fit sig [] h = tt
all-fit sig (p ∷ ps) h = (h.0, all-fit sig ps h.1)

pub all-same : (m : ModelTree) (goal : Goal) → IsAnswered m goal → (ps : List FormTree)
    → AllByRecursion (FitsForm (symbols m.signature) []) ps → (t : Tables) → FitsStructure (symbols (answered m goal)) t
    → satisfies t ps ≡ satisfies (reduct (symbols m.signature) t) ps
all-same m goal is ps h t fits = is.truths t (all_of ps) fits (all-fit (symbols m.signature) ps h)

module _ (limits : Ceilings) (m : ModelTree) (goal : Goal) where
  module _ (more : List FormTree) (within : goal_passes_limit All m goal ≡ false) where
    passes : (first : Option Cause) → RestrictedSentencePasses limits m more goal first
        → RestrictedPassesFirst limits m more goal first
    passes first h = passes_first limits m goal (refuting_where All m m.conjectures more goal) within first h

    by_measure : (d : Measured) → IsSentenceMeasured limits (answered m goal) (refuting_where All m m.conjectures more goal) d
        → IsRestrictedMeasured limits m more goal d
    by_measure (Within size) h = (passes None (None, h.0, refl), h.1, h.2)
    by_measure (Over c) h = passes (Some c) (Some h.0, h.2, ap (λ (x : Cause). Some x) h.1)

    -- what the sentence would cost is what the goal would
    pub measured_by : (p : FormTree) (d : Measured) → p ≡ refuting_where All m m.conjectures more goal
        → IsSentenceMeasured limits (answered m goal) p d → IsRestrictedMeasured limits m more goal d
    measured_by p d is h =
        by_measure d (subst (λ (q : FormTree). IsSentenceMeasured limits (answered m goal) q d) is h)

    module _ (laws : AreExact) (fits : FitsModel m) (ok : IsSignature m.signature) (is_answered : IsAnswered m goal)
        (g : IsGoal m goal) (added : AreAdded m m.conjectures more) where
      failing : (shown : Counterexample)
          → IsSentenceFailing limits All m (refuting_where All m m.conjectures more goal) goal shown
          → IsFailing limits m m.conjectures goal shown
      failing shown h = record {
        same = h.same;
        path = h.path;
        refutes = h.refutes m.conjectures more added refl;
        few = h.few;
      }

      by_sentence : (d : Decision) → IsSentenceDecision limits m (refuting_where All m m.conjectures more goal) goal d
          → IsRestrictedDecision limits m more goal d
      by_sentence (Holds proof) h = (
        passes None (None, h.0, refl),
        (λ s havocs values counterexample lawful.
            let w = laws.cuts All m m.conjectures goal s havocs values fits ok added.universal_fit g
            counterexample in
            let there : satisfies w.whole more ≡ true =
            all-same m goal is_answered more added.others_fit w.whole w.fits
            ∙ ap (λ (z : Tables). satisfies z more) (sym w.cut) ∙ lawful in
            h.1 w.whole w.fits
            (both-true (reading w.whole) (refuting_parts All m m.conjectures goal) more w.holds there)),
        h.2,
      )
      by_sentence (Fails shown) h = (
        passes None (None, h.0, refl),
        (
          failing shown h.1,
          (let w = h.1.holds in
              ap (λ (z : Tables). satisfies z more) w.cut
              ∙ sym (all-same m goal is_answered more added.others_fit w.whole w.fits)
              ∙ others-true (reading w.whole) (refuting_parts All m m.conjectures goal) more w.holds),
        ),
      )
      by_sentence (Undecided c) h =
          subst (IsLeftOpenWhere limits m more goal) (sym h.1)
          (left_open limits m goal (refuting_where All m m.conjectures more goal) within h.0 h.2)

      -- what is answered of the sentence is answered of the goal
      pub restricted_by : (p : FormTree) (d : Decision) → p ≡ refuting_where All m m.conjectures more goal
          → IsSentenceDecision limits m p goal d → IsRestrictedDecision limits m more goal d
      restricted_by p d is h =
          by_sentence d (subst (λ (q : FormTree). IsSentenceDecision limits m q goal d) is h)

  -- where there are no further sentences it is the goal itself
  module _ (alone : NoPartsAreAdded) where
    first-alone : (first : Option Cause) → RestrictedPassesFirst limits m [] goal first
        → MatchBool (goal_passes_limit All m goal) (first ≡ Some cause.Formula)
        ((p : Option Passed) × Passes limits (answered m goal) (refuting All m m.conjectures goal) p
        × (first ≡ first_cause p))
    first-alone first h =
        subst
        (λ (q : FormTree). MatchBool (goal_passes_limit All m goal) (first ≡ Some cause.Formula)
        ((p : Option Passed) × Passes limits (answered m goal) q p × (first ≡ first_cause p)))
        (alone All m m.conjectures goal) h

    pub unrestricted : (d : Decision) → IsRestrictedDecision limits m [] goal d → IsDecision limits m m.conjectures goal d
    unrestricted (Holds proof) h = (
      first-alone None h.0,
      (λ s havocs values counterexample. h.1 s havocs values counterexample refl),
      subst (λ (q : FormTree). Refutes (answered m goal) q proof) (alone All m m.conjectures goal) h.2,
    )
    unrestricted (Fails shown) h = (first-alone None h.0, h.1.0)
    unrestricted (Undecided cause.Formula) h = first-alone (Some cause.Formula) h
    unrestricted (Undecided (cause.Terms n)) h = first-alone (Some (cause.Terms n)) h
    unrestricted (Undecided (cause.Ground n)) h = first-alone (Some (cause.Ground n)) h
    unrestricted (Undecided (cause.Conflicts n)) h = (
      first-alone None h.0,
      h.1,
      subst (λ (q : FormTree). SpendsBudget (answered m goal) q n) (alone All m m.conjectures goal) h.2,
    )
