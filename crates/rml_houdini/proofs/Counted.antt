-- A refuting sentence that is counted where its parts stand, and the limit that it passes.
use Rattle.std.proofs.Common.{◌≡◌, ℕ, Bool, true, false, cond, List, [], ◌∷◌, ◌++◌, map, Option, Some, None, refl}
use Rattle.std.proofs.Common.{sym, ap, ◌∙◌, subst}
use Rattle.std.specs.Prelude.{MatchBool, nat_lt, sum, slice_index_or}
use Rattle.fol_sig.specs.Tables.{Declared}
use Rattle.fol_sig.specs.Symbols.{symbols}
use Rattle.fol_formula.specs.Syntax.{FormTree, top, negation}
use Rattle.fol_formula.specs.Fits.{FitsForm}
use Rattle.fol_formula.specs.Fragments.{IsEa}
use Rattle.rml_command.specs.Models.{ModelTree}
use Rattle.fol_formula.specs.Sentences.{all_of}
use Rattle.rml_command.specs.declared.goal.Goal.{Goal}
use Rattle.rml_command.specs.declared.goal.Stage.{Stage}
use Rattle.rml_command.specs.declared.goal.Stage.TheVariants as stage
use Rattle.rml_wp.specs.declared.premises.Premises.TheVariants.{All}
use Rattle.rml_wp.specs.Preconditions.{answered, goal_precondition, goal_passes_limit, parts_before}
use Rattle.rml_command.specs.InductiveSets.{conjectures_of}
use Rattle.rml_wp.specs.Preconditions.{refuting}
use Rattle.rml_wp.specs.Added.{IsRefutingSentence, NoPartsAreAdded}
use Rattle.limits.specs.declared.cause.Cause.{Cause}
use Rattle.limits.specs.declared.cause.Cause.TheVariants as cause
use Rattle.ground_size.specs.Sizes.{size_of}
use Rattle.ea_decide.specs.declared.decided.Passed.{Passed}
use Rattle.ea_decide.specs.declared.decided.Passed.TheVariants as passed
use Rattle.ea_decide.specs.declared.decided.Measured.{Measured}
use Rattle.ea_decide.specs.declared.decided.Measured.TheVariants.{Within, Over}
use Rattle.ea_decide.specs.Measuring.{IsMeasured}
use Rattle.limits.specs.Ceilings.{Ceilings}
use Rattle.ea_decide.specs.Passing.{Passes}
use Rattle.obligation_decide.specs.GoalPassing.{cause_of, first_cause, SentencePasses, PassesFirst}
use Rattle.rml_houdini.specs.Assuming.{held_parts}
use Rattle.obligation_decide.specs.GoalDecisions.{IsLeftOpen}

-- the parts as they are counted
abbrev pub counted_parts : List FormTree → List FormTree → FormTree → FormTree
counted_parts axioms held p = all_of (all_of axioms ∷ (held ++ (negation p ∷ [])))

in-order : (st : Stage) (axioms held : List FormTree) (p : FormTree)
    → counted_parts axioms (held_parts st held) p
    ≡ all_of (parts_before st (all_of axioms) (all_of held) ++ negation p ∷ [])
in-order stage.Init axioms held p = refl
in-order (stage.Action a) axioms held p = refl
in-order stage.Final axioms held p = refl

-- the parts that a model lends
pub lent : (m given : ModelTree) (goal : Goal) (ks : List ℕ) (axioms conjectures chosen before : List FormTree)
    (p q : FormTree)
    → given ≡ m → axioms ≡ given.axioms → conjectures ≡ given.conjectures
    → chosen ≡ map (λ k. slice_index_or conjectures k top) ks → before ≡ held_parts goal.stage chosen
    → p ≡ q → q ≡ goal_precondition All m goal
    → counted_parts axioms before p ≡ refuting All m (conjectures_of m ks) goal
lent m given goal ks axioms conjectures chosen before p q same by_axioms by_conjectures of by is precondition =
    let lawful = by_axioms ∙ ap (λ (z : ModelTree). z.axioms) same in
    let all = by_conjectures ∙ ap (λ (z : ModelTree). z.conjectures) same in
    let held : chosen ≡ conjectures_of m ks =
    of ∙ ap (λ (cs : List FormTree). map (λ k. slice_index_or cs k top) ks) all in
    let parts = by ∙ ap (λ (cs : List FormTree). held_parts goal.stage cs) held in
    ap (λ (ps : List FormTree). counted_parts ps before p) lawful
    ∙ ap (λ (ps : List FormTree). counted_parts m.axioms ps p) parts
    ∙ ap (λ (f : FormTree). counted_parts m.axioms (held_parts goal.stage (conjectures_of m ks)) f) (is ∙ precondition)
    ∙ in-order goal.stage m.axioms (conjectures_of m ks) (goal_precondition All m goal)

module _ (m : ModelTree) (goal : Goal) (held : List FormTree) (p : FormTree) (is : p ≡ refuting All m held goal)
    (none : NoPartsAreAdded) where
  pub in_fragment : IsRefutingSentence All m held [] goal → IsEa p
  in_fragment h = subst (λ (q : FormTree). IsEa q) (none All m held goal ∙ sym is) h.fragment

  pub fits_given : (given : Declared) → given ≡ answered m goal → IsRefutingSentence All m held [] goal
      → FitsForm (symbols given) [] p
  fits_given given same h =
      subst (λ (z : Declared). FitsForm (symbols z) [] p) (sym same)
      (subst (λ (q : FormTree). FitsForm (symbols (answered m goal)) [] q) (none All m held goal ∙ sym is) h.fits)

  measured-as : (limits : Ceilings) (given : Declared) (d e : Measured) → given ≡ answered m goal → d ≡ e
      → IsMeasured limits given p d → IsMeasured limits (answered m goal) (refuting All m held goal) e
  measured-as limits given d e same answer h =
      subst (λ (q : FormTree). IsMeasured limits (answered m goal) q e) is
      (subst (λ (a : Measured). IsMeasured limits (answered m goal) p a) answer
      (subst (λ (z : Declared). IsMeasured limits z p d) same h))

  pub within_by : (limits : Ceilings) (given : Declared) (d : Measured) (size : ℕ) → given ≡ answered m goal
      → d ≡ Within size → IsMeasured limits given p d → SentencePasses limits m held goal None
  within_by limits given d size same answer h =
      (None, (measured-as limits given d (Within size) same answer h).0, refl)

  pub over_by : (limits : Ceilings) (given : Declared) (d : Measured) (over : Passed) (c : Cause)
      → given ≡ answered m goal → d ≡ Over over → c ≡ cause_of over → IsMeasured limits given p d
      → SentencePasses limits m held goal (Some c)
  over_by limits given d over c same answer named h =
      (Some over, measured-as limits given d (Over over) same answer h, ap (λ (x : Cause). Some x) named)

-- a goal passes what its sentence passes, where its precondition is small enough
pub passed_by : (limits : Ceilings) (m : ModelTree) (held : List FormTree) (goal : Goal) (first : Option Cause)
    → goal_passes_limit All m goal ≡ false → SentencePasses limits m held goal first
    → PassesFirst limits m held goal first
passed_by limits m held goal first small h =
    subst (λ (b : Bool). MatchBool b (first ≡ Some cause.Formula) (SentencePasses limits m held goal first))
    (sym small) h

-- and otherwise that of formulas
pub passed_formula : (limits : Ceilings) (m : ModelTree) (held : List FormTree) (goal : Goal)
    → goal_passes_limit All m goal ≡ true → PassesFirst limits m held goal (Some cause.Formula)
passed_formula limits m held goal large =
    subst (λ (b : Bool). MatchBool b (Some cause.Formula ≡ Some cause.Formula)
    (SentencePasses limits m held goal (Some cause.Formula))) (sym large) refl

-- a budget of conflicts is no limit by size
no-budget : (a b : Bool) (t g k : ℕ) → Some (passed.Conflicts k)
    ≡ cond a (Some (passed.Terms t)) (cond b (Some (passed.GroundSize g)) None) → ⊥
no-budget true b t g k e = absurd (cc e)
no-budget false true t g k e = absurd (cc e)
no-budget false false t g k e = absurd (cc e)

not-conflicts : (limits : Ceilings) (m : ModelTree) (held : List FormTree) (goal : Goal) (n : ℕ) (p : Option Passed)
    → Passes limits (answered m goal) (refuting All m held goal) p → Some (cause.Conflicts n) ≡ first_cause p → ⊥
not-conflicts limits m held goal n None h e = absurd (cc e)
not-conflicts limits m held goal n (Some (passed.Terms t)) h e = absurd (cc e)
not-conflicts limits m held goal n (Some (passed.GroundSize g)) h e = absurd (cc e)
not-conflicts limits m held goal n (Some (passed.Conflicts k)) h e =
    no-budget (nat_lt limits.terms (sum h.counts))
    (nat_lt limits.size (size_of (answered m goal) h.counts (refuting All m held goal))) _ _ k h.first

by-size : (limits : Ceilings) (m : ModelTree) (held : List FormTree) (goal : Goal) (n : ℕ) (b : Bool)
    → MatchBool b (Some (cause.Conflicts n) ≡ Some cause.Formula)
    (SentencePasses limits m held goal (Some (cause.Conflicts n))) → ⊥
by-size limits m held goal n true h = absurd (cc h)
by-size limits m held goal n false h = not-conflicts limits m held goal n h.0 h.1 h.2

-- a limit that is passed by the size leaves the goal open
pub left_open : (limits : Ceilings) (m : ModelTree) (held : List FormTree) (goal : Goal) (c : Cause)
    → PassesFirst limits m held goal (Some c) → IsLeftOpen limits m held goal c
left_open limits m held goal (cause.Conflicts n) h =
    absurd (by-size limits m held goal n (goal_passes_limit All m goal) h)
left_open limits m held goal cause.Formula h = h
left_open limits m held goal (cause.Terms n) h = h
left_open limits m held goal (cause.Ground n) h = h
