-- A decision by the lean sentence settles the goal by the lean counts; and what is counted of that is what it passes.
use Rattle.std.proofs.Common.{◌≡◌, ◌∙◌, ℕ, Bool, false, true, Option, Some, None, refl, sym, subst}
use Rattle.std.specs.Prelude.{MatchBool}
use Rattle.lrat_check.specs.Checked.{Checked}
use Rattle.rml_command.specs.Models.{ModelTree}
use Rattle.rml_command.specs.Goals.{HasNone}
use Rattle.rml_command.specs.declared.goal.Goal.{Goal}
use Rattle.rml_exec.specs.declared.trace.Counterexample.{Counterexample}
use Rattle.limits.specs.declared.cause.Cause.{Cause}
use Rattle.limits.specs.declared.cause.Cause.TheVariants as cause
use Rattle.rml_wp.specs.declared.premises.Premises.TheVariants.{Affected}
use Rattle.rml_wp.specs.Preconditions.{answered, goal_passes_limit}
use Rattle.ea_decide.specs.declared.decided.Passed.{Passed}
use Rattle.ea_decide.specs.declared.decided.Passed.TheVariants as passed
use Rattle.limits.specs.Ceilings.{Ceilings}
use Rattle.ea_decide.specs.Passing.{Passes}
use Rattle.ea_decide.specs.Decisions.{IsOver}
use Rattle.ea_decide.specs.declared.decided.Measured.TheVariants.{Within, Over}
use Rattle.pruned_decide.specs.Decisions.{lean_signature, lean_sentence, IsMeasuredSmall}
use Rattle.obligation_decide.specs.GoalPassing.{cause_of, first_cause}
use Rattle.obligation_decide.specs.declared.decision.Decision.{Decision}
use Rattle.obligation_decide.specs.declared.decision.Decision.TheVariants.{Holds, Fails, Undecided}
use Rattle.lean_decide.specs.Lean.{affected_refuting, IsDecidedBy, IsLeanDecision, too_large, decided}
use Rattle.lean_decide.specs.Settled.{LeanPassesFirst, IsLeanLeftOpen}
use Rattle.lean_decide.proofs.SameLimits.{never_conflicts}
use Rattle.obligation_decide.specs.GoalDecisions.{IsFailing}

module _ (limits : Ceilings) (m : ModelTree) (goal : Goal) where
  abbrev LeanPasses : Option Passed → Type 0
  LeanPasses p =
      Passes limits (lean_signature (answered m goal) (affected_refuting m goal))
      (lean_sentence (answered m goal) (affected_refuting m goal)) p

  abbrev BySize : Option Cause → Bool → Type 0
  BySize first b =
      MatchBool b (first ≡ Some cause.Formula) ((p : Option Passed) × LeanPasses p × (first ≡ first_cause p))

  -- what the lean sentence passes, where the limit of formulas is not passed
  by_count : (p : Option Passed) → goal_passes_limit Affected m goal ≡ false → LeanPasses p
      → LeanPassesFirst limits m goal (first_cause p)
  by_count p within h = subst (λ (b : Bool). BySize (first_cause p) b) (sym within) (p, h, refl)

  pub by_formula : goal_passes_limit Affected m goal ≡ true → LeanPassesFirst limits m goal (Some cause.Formula)
  by_formula passes = subst (λ (b : Bool). BySize (Some cause.Formula) b) (sym passes) refl

  by_passed : (p : Passed) → goal_passes_limit Affected m goal ≡ false
      → IsOver limits (lean_signature (answered m goal) (affected_refuting m goal))
      (lean_sentence (answered m goal) (affected_refuting m goal)) p
      → IsLeanLeftOpen limits m goal (cause_of p)
  by_passed (passed.Conflicts n) within h = (by_count None within h.0, h.1, h.2)
  by_passed (passed.Terms n) within h = by_count (Some (passed.Terms n)) within h
  by_passed (passed.GroundSize n) within h = by_count (Some (passed.GroundSize n)) within h

  -- a limit that is passed by its size leaves it open
  passed_first : (p : Passed) → goal_passes_limit Affected m goal ≡ false → LeanPasses (Some p)
      → IsLeanLeftOpen limits m goal (cause_of p)
  passed_first (passed.Conflicts n) within h =
      absurd (never_conflicts limits (lean_signature (answered m goal) (affected_refuting m goal))
      (lean_sentence (answered m goal) (affected_refuting m goal)) n h)
  passed_first (passed.Terms n) within h = by_count (Some (passed.Terms n)) within h
  passed_first (passed.GroundSize n) within h = by_count (Some (passed.GroundSize n)) within h

  pub lean_within : (size : ℕ) → goal_passes_limit Affected m goal ≡ false
      → IsMeasuredSmall limits (answered m goal) (affected_refuting m goal) (Within size)
      → LeanPassesFirst limits m goal None
  lean_within size within h = by_count None within h.0

  pub lean_over : (p : Passed) (c : Cause) → c ≡ cause_of p → goal_passes_limit Affected m goal ≡ false
      → IsMeasuredSmall limits (answered m goal) (affected_refuting m goal) (Over p)
      → LeanPassesFirst limits m goal (Some c) × IsLeanLeftOpen limits m goal c
  lean_over p c is within h =
      subst (λ (x : Cause). LeanPassesFirst limits m goal (Some x) × IsLeanLeftOpen limits m goal x) (sym is)
      (by_count (Some p) within h, passed_first p within h)

  decided_as : (d e : Decision) → d ≡ e → IsDecidedBy limits m goal (affected_refuting m goal) d
      → IsDecidedBy limits m goal (affected_refuting m goal) e
  decided_as d e is h = subst (λ (a : Decision). IsDecidedBy limits m goal (affected_refuting m goal) a) is h

  pub lean_holds : (d : Decision) (proof : Checked) → d ≡ Holds proof → IsLeanDecision limits m goal d
      → LeanPassesFirst limits m goal None × HasNone m m.conjectures goal
  lean_holds d proof is (too_large passes e) = absurd (cc (sym is ∙ e))
  lean_holds d proof is (decided within h) =
      let k = decided_as d (Holds proof) is h in
      (by_count None within k.0, k.1)

  pub lean_fails : (d : Decision) (shown : Counterexample) → d ≡ Fails shown → IsLeanDecision limits m goal d
      → LeanPassesFirst limits m goal None × IsFailing limits m m.conjectures goal shown
  lean_fails d shown is (too_large passes e) = absurd (cc (sym is ∙ e))
  lean_fails d shown is (decided within h) =
      let k = decided_as d (Fails shown) is h in
      (by_count None within k.0, k.1)

  pub lean_open : (d : Decision) (c : Cause) → d ≡ Undecided c → IsLeanDecision limits m goal d
      → IsLeanLeftOpen limits m goal c
  lean_open d c is (too_large passes e) =
      let same : c ≡ cause.Formula = cc (sym is ∙ e) in
      subst (λ (x : Cause). IsLeanLeftOpen limits m goal x) (sym same) (by_formula passes)
  lean_open d c is (decided within h) =
      let k = decided_as d (Undecided c) is h in
      subst (λ (x : Cause). IsLeanLeftOpen limits m goal x) (sym k.1) (by_passed k.0 within k.2)
