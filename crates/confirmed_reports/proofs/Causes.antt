-- The causes of what a decision leaves open: a count stops at the greatest number of 64 bits, and a budget is what was
-- allowed.
use Rattle.std.proofs.Common.{◌≡◌, ℕ, ◌≤◌, Bool, true, false, Option, Some, None, refl, sym, subst, arith, sum}
use Rattle.std.specs.Prelude.{MatchBool, nat_lt, if◌then◌else◌}
use Rattle.fol_sig.specs.Tables.{Declared}
use Rattle.fol_formula.specs.Syntax.{FormTree}
use Rattle.fol_formula.specs.Counts.{saturated}
use Rattle.rml_command.specs.Models.{ModelTree}
use Rattle.rml_command.specs.declared.goal.Goal.{Goal}
use Rattle.rml_wp.specs.Preconditions.{answered, goal_passes_limit}
use Rattle.limits.specs.declared.cause.Cause.{Cause}
use Rattle.limits.specs.declared.cause.Cause.TheVariants as cause
use Rattle.rml_report.specs.declared.report.Axioms.{Axioms}
use Rattle.rml_report.specs.declared.report.Axioms.TheVariants as axioms
use Rattle.printed_report.specs.Lines.{IsNumber, IsCause, IsCounted, IsAxioms}
use Rattle.ground_size.specs.Sizes.{size_of}
use Rattle.ea_decide.specs.declared.decided.Passed.{Passed}
use Rattle.ea_decide.specs.declared.decided.Passed.TheVariants.{Terms, GroundSize, Conflicts}
use Rattle.limits.specs.Ceilings.{Ceilings}
use Rattle.ea_decide.specs.Passing.{Passes}
use Rattle.ea_decide.specs.Decisions.{IsOver}
use Rattle.obligation_decide.specs.GoalPassing.{cause_of, first_cause, PassesAs, PassesFirstAs}
use Rattle.obligation_decide.specs.GoalDecisions.{IsLeftOpenAs, AreAxiomsDecided}
use Rattle.rml_wp.specs.declared.premises.Premises.TheVariants.{All}

saturated_number : (n : ℕ) → IsNumber (saturated n)
saturated_number n = omega arith

as_cause : (c : Cause) → IsCounted c → IsCause c
as_cause cause.Formula h = absurd h
as_cause (cause.Terms n) h = h
as_cause (cause.Ground n) h = h
as_cause (cause.Conflicts n) h = h

module _ (limits : Ceilings) (few : limits.conflicts ≤ 100000000) where
  module _ (sig : Declared) (p : FormTree) where
    first_counted : (terms size : ℕ) (many large : Bool) (x : Passed)
        → Some x ≡ (if many then Some (Terms (saturated terms))
        else if large then Some (GroundSize (saturated size)) else None) → IsCounted (cause_of x)
    first_counted terms size true large x e =
        let same : x ≡ Terms (saturated terms) = cc e in
        subst (λ (y : Passed). IsCounted (cause_of y)) (sym same) (saturated_number terms)
    first_counted terms size false true x e =
        let same : x ≡ GroundSize (saturated size) = cc e in
        subst (λ (y : Passed). IsCounted (cause_of y)) (sym same) (saturated_number size)
    first_counted terms size false false x e = absurd (cc e)

    passes_counted : (x : Passed) → Passes limits sig p (Some x) → IsCounted (cause_of x)
    passes_counted x h =
        first_counted (sum h.counts) (size_of sig h.counts p) (nat_lt limits.terms (sum h.counts))
        (nat_lt limits.size (size_of sig h.counts p)) x h.first

    over_counted : (x : Passed) → IsOver limits sig p x → IsCounted (cause_of x)
    over_counted (Terms n) h = passes_counted (Terms n) h
    over_counted (GroundSize n) h = passes_counted (GroundSize n) h
    over_counted (Conflicts n) h = let same : n ≡ limits.conflicts = h.1 in omega (arith, same, few)

  pub axioms_told : (m : ModelTree) (a : Axioms) → AreAxiomsDecided limits m a → IsAxioms a
  axioms_told m axioms.Consistent h = tt
  axioms_told m axioms.Inconsistent h = tt
  axioms_told m (axioms.Undecided c) h =
      subst (λ (d : Cause). IsCounted d) (sym h.1) (over_counted m.signature _ h.0 h.2)

  module _ (m : ModelTree) (goal : Goal) (p : FormTree) where
    sentence_counted : (c : Cause) → PassesAs limits (answered m goal) p (Some c) → IsCounted c
    sentence_counted c h = by h.0 h.1 h.2
      where
        by : (q : Option Passed) → Passes limits (answered m goal) p q → Some c ≡ first_cause q → IsCounted c
        by None passes e = absurd (cc e)
        by (Some x) passes e =
            let same : c ≡ cause_of x = cc e in
            subst (λ (d : Cause). IsCounted d) (sym same) (passes_counted (answered m goal) p x passes)

    -- a goal that passes no limit of formulas is left open for a cause that has a number
    first_is_counted : (c : Cause) → goal_passes_limit All m goal ≡ false → PassesFirstAs limits m goal p (Some c)
        → IsCounted c
    first_is_counted c within h =
        sentence_counted c
        (subst (λ (b : Bool). MatchBool b (Some c ≡ Some cause.Formula)
        (PassesAs limits (answered m goal) p (Some c))) within h)

    pub open_counted : (c : Cause) → goal_passes_limit All m goal ≡ false → IsLeftOpenAs limits m goal p c → IsCounted c
    open_counted cause.Formula within h = first_is_counted cause.Formula within h
    open_counted (cause.Terms n) within h = first_is_counted (cause.Terms n) within h
    open_counted (cause.Ground n) within h = first_is_counted (cause.Ground n) within h
    open_counted (cause.Conflicts n) within h = let same : n ≡ limits.conflicts = h.1 in omega (arith, same, few)

    first_is_cause : (c : Cause) → PassesFirstAs limits m goal p (Some c) → IsCause c
    first_is_cause c h = by (goal_passes_limit All m goal) h
      where
        by : (b : Bool) → MatchBool b (Some c ≡ Some cause.Formula) (PassesAs limits (answered m goal) p (Some c))
            → IsCause c
        by true e = let same : c ≡ cause.Formula = cc e in subst (λ (d : Cause). IsCause d) (sym same) tt
        by false passes = as_cause c (sentence_counted c passes)

    pub open_cause : (c : Cause) → IsLeftOpenAs limits m goal p c → IsCause c
    open_cause cause.Formula h = tt
    open_cause (cause.Terms n) h = first_is_cause (cause.Terms n) h
    open_cause (cause.Ground n) h = first_is_cause (cause.Ground n) h
    open_cause (cause.Conflicts n) h = let same : n ≡ limits.conflicts = h.1 in omega (arith, same, few)

    -- what passes no limit passes none of formulas
    pub no_formula : PassesFirstAs limits m goal p None → goal_passes_limit All m goal ≡ false
    no_formula h = by (goal_passes_limit All m goal) h
      where
        by : (b : Bool) → MatchBool b (None ≡ Some cause.Formula) (PassesAs limits (answered m goal) p None) → b ≡ false
        by true e = absurd (cc e)
        by false passes = refl
