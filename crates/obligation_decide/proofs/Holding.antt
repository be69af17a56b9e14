-- What the answer to a refuting sentence says of the goal, where some sentences hold before the stage in place of the
-- conjectures.
use Rattle.std.proofs.Common.{◌≡◌, false, List, [], Option, None, refl, sym, subst}
use Rattle.fol_sig.specs.Tables.{IsSignature}
use Rattle.fol_formula.specs.Syntax.{FormTree}
use Rattle.rml_command.specs.Models.{ModelTree, FitsModel}
use Rattle.rml_command.specs.Goals.{IsGoal}
use Rattle.rml_command.specs.declared.goal.Goal.{Goal}
use Rattle.rml_exec.specs.declared.trace.Counterexample.{Counterexample}
use Rattle.rml_wp.specs.declared.premises.Premises.TheVariants.{All}
use Rattle.rml_wp.specs.Preconditions.{goal_passes_limit, refuting}
use Rattle.rml_wp.specs.Added.{AreAdded, NoPartsAreAdded}
use Rattle.rml_wp.specs.Answered.{CounterexamplesAreCuts}
use Rattle.limits.specs.declared.cause.Cause.{Cause}
use Rattle.limits.specs.Ceilings.{Ceilings}
use Rattle.obligation_decide.specs.Restricted.{IsSentenceFailing, IsSentenceDecision}
use Rattle.obligation_decide.specs.declared.decision.Decision.{Decision}
use Rattle.obligation_decide.specs.declared.decision.Decision.TheVariants.{Holds, Fails, Undecided}
use Rattle.obligation_decide.proofs.Leaving.{passes_first, left_open}
use Rattle.obligation_decide.specs.GoalPassing.{SentencePasses, PassesFirst}
use Rattle.obligation_decide.specs.GoalDecisions.{IsFailing, IsDecision, IsLeftOpen}

module _ (limits : Ceilings) (m : ModelTree) (goal : Goal) (held : List FormTree)
    (within : goal_passes_limit All m goal ≡ false) where
  passes : (first : Option Cause) → SentencePasses limits m held goal first → PassesFirst limits m held goal first
  passes first h = passes_first limits m goal (refuting All m held goal) within first h

  module _ (cuts : CounterexamplesAreCuts) (alone : NoPartsAreAdded) (fits : FitsModel m) (ok : IsSignature m.signature)
      (g : IsGoal m goal) (added : AreAdded m held []) where
    failing : (shown : Counterexample) → IsSentenceFailing limits All m (refuting All m held goal) goal shown
        → IsFailing limits m held goal shown
    failing shown h = record {
      same = h.same;
      path = h.path;
      refutes = h.refutes held [] added (sym (alone All m held goal));
      few = h.few;
    }

    by_sentence : (d : Decision) → IsSentenceDecision limits m (refuting All m held goal) goal d
        → IsDecision limits m held goal d
    by_sentence (Holds proof) h = (
      passes None (None, h.0, refl),
      (λ s havocs values counterexample.
          let w = cuts All m held goal s havocs values fits ok added.universal_fit g counterexample in
          h.1 w.whole w.fits w.holds),
      h.2,
    )
    by_sentence (Fails shown) h = (passes None (None, h.0, refl), failing shown h.1)
    by_sentence (Undecided c) h =
        subst (IsLeftOpen limits m held goal) (sym h.1)
        (left_open limits m goal (refuting All m held goal) within h.0 h.2)

    -- what is answered of the sentence is answered of the goal
    pub held_by : (p : FormTree) (d : Decision) → p ≡ refuting All m held goal → IsSentenceDecision limits m p goal d
        → IsDecision limits m held goal d
    held_by p d is h = by_sentence d (subst (λ (q : FormTree). IsSentenceDecision limits m q goal d) is h)
