-- A try with all that is held assumed settles a goal by its lean counts.
use Rattle.std.proofs.Common.{◌≡◌, List, ℕ, Bool, true, false, Option, Some, None, refl, sym, ◌∙◌, subst}
use Rattle.std.specs.Prelude.{MatchBool}
use Rattle.fol_sig.specs.Tables.{Tables}
use Rattle.fol_formula.specs.Syntax.{FormTree}
use Rattle.rml_command.specs.Models.{ModelTree}
use Rattle.rml_command.specs.declared.goal.Goal.{Goal}
use Rattle.rml_exec.specs.declared.trace.Counterexample.{Counterexample}
use Rattle.limits.specs.declared.cause.Cause.{Cause}
use Rattle.limits.specs.declared.cause.Cause.TheVariants as cause
use Rattle.rml_wp.specs.declared.premises.Premises.TheVariants.{Affected}
use Rattle.rml_wp.specs.Preconditions.{answered, goal_passes_limit}
use Rattle.ea_decide.specs.declared.decided.Passed.{Passed}
use Rattle.ea_decide.specs.declared.decided.Passed.TheVariants as passed
use Rattle.limits.specs.Ceilings.{Ceilings}
use Rattle.ea_decide.specs.Passing.{Passes}
use Rattle.ea_decide.specs.Decisions.{IsOver}
use Rattle.pruned_decide.specs.Decisions.{lean_signature, lean_sentence}
use Rattle.obligation_decide.specs.GoalPassing.{cause_of, first_cause}
use Rattle.lean_decide.specs.declared.settling.Counted.TheVariants.{Lean}
use Rattle.rml_houdini.specs.Assuming.{assumed_sentence}
use Rattle.rml_houdini.specs.Counts.{LeanPasses, LeanPassesFirst, IsLeanLeftOpen, affected_with}
use Rattle.rml_houdini.specs.Keeping.{AssumedPasses, IsTried, IsSettledBy}
use Rattle.rml_houdini.specs.declared.assumed.Assumed.{Assumed}
use Rattle.rml_houdini.specs.declared.trying.Tried.{Tried}
use Rattle.rml_houdini.specs.declared.trying.Tried.TheVariants as tried
use Rattle.lean_decide.specs.declared.settling.Settled.TheVariants as settled
use Rattle.rml_houdini.proofs.Assuming.{is_whole}

module _ (limits : Ceilings) (m : ModelTree) (held : List ℕ) (goal : Goal) where
  abbrev BySize : Option Cause → Bool → Type 0
  BySize first b =
      MatchBool b (first ≡ Some cause.Formula)
      ((p : Option Passed) × LeanPasses limits m held goal p × (first ≡ first_cause p))

  -- what the lean sentence passes, where the limit of formulas is not passed
  by_count : (p : Option Passed) → goal_passes_limit Affected m goal ≡ false → LeanPasses limits m held goal p
      → LeanPassesFirst limits m held goal (first_cause p)
  by_count p within h = subst (λ (b : Bool). BySize (first_cause p) b) (sym within) (p, h, refl)

  pub by_formula : goal_passes_limit Affected m goal ≡ true → IsLeanLeftOpen limits m held goal cause.Formula
  by_formula passes = subst (λ (b : Bool). BySize (Some cause.Formula) b) (sym passes) refl

  by_passed : (p : Passed) → goal_passes_limit Affected m goal ≡ false
      → IsOver limits (lean_signature (answered m goal) (affected_with m held goal))
      (lean_sentence (answered m goal) (affected_with m held goal)) p
      → IsLeanLeftOpen limits m held goal (cause_of p)
  by_passed (passed.Conflicts n) within h = (by_count None within h.0, h.1, h.2)
  by_passed (passed.Terms n) within h = by_count (Some (passed.Terms n)) within h
  by_passed (passed.GroundSize n) within h = by_count (Some (passed.GroundSize n)) within h

module _ (limits : Ceilings) (m : ModelTree) (goal : Goal) (a : Assumed) (lawful : a.lawful ≡ true)
    (within : goal_passes_limit Affected m goal ≡ false) where
  -- what is said of the sentence with this assumed is said of the refuting sentence
  moved : (Q : FormTree → Type 0) → Q (assumed_sentence m a goal) → Q (affected_with m a.held.items goal)
  moved Q h = subst Q (is_whole m goal a lawful) h

  none_passed : AssumedPasses limits m goal a None → LeanPassesFirst limits m a.held.items goal None
  none_passed h =
      by_count limits m a.held.items goal None within
      (moved (λ (p : FormTree). Passes limits (lean_signature (answered m goal) p)
      (lean_sentence (answered m goal) p) None) h)

  pub lean_holds : (t : Tried) → t ≡ tried.Holds → IsTried limits m goal a t
      → IsSettledBy Lean limits m a.held.items goal a settled.Holds
  lean_holds t is h =
      let k = subst (λ (x : Tried). IsTried limits m goal a x) is h in
      ((none_passed k.0, k.1), k.1)

  pub lean_fails : (t : Tried) (shown : Counterexample) → t ≡ tried.Breaks shown → IsTried limits m goal a t
      → IsSettledBy Lean limits m a.held.items goal a (settled.Fails shown)
  lean_fails t shown is h =
      let k = subst (λ (x : Tried). IsTried limits m goal a x) is h in
      (none_passed k.0, k.1)

  pub lean_open : (t : Tried) (p : Passed) (c : Cause) → t ≡ tried.Over p → c ≡ cause_of p
      → IsTried limits m goal a t → IsSettledBy Lean limits m a.held.items goal a (settled.Undecided c)
  lean_open t p c is named h =
      let k = subst (λ (x : Tried). IsTried limits m goal a x) is h in
      subst (λ (x : Cause). IsLeanLeftOpen limits m a.held.items goal x) (sym named)
      (by_passed limits m a.held.items goal p within
      (moved (λ (q : FormTree). IsOver limits (lean_signature (answered m goal) q)
      (lean_sentence (answered m goal) q) p) k))

  pub never_met : (t : Tried) (s : Tables) → t ≡ tried.Met s → IsTried limits m goal a t → ⊥
  never_met t s is h = cc (sym lawful ∙ (subst (λ (x : Tried). IsTried limits m goal a x) is h).0)
