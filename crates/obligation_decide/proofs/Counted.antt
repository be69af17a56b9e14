-- A refuting sentence that is counted where its parts stand.
use Rattle.std.proofs.Common.{◌≡◌, List, [], ◌∷◌, ◌++◌, sym, ap, ◌∙◌, subst, append-nil}
use Rattle.fol_sig.specs.Tables.{Declared}
use Rattle.fol_sig.specs.Symbols.{symbols}
use Rattle.fol_formula.specs.Syntax.{FormTree, negation}
use Rattle.fol_formula.specs.Fits.{FitsForm}
use Rattle.fol_formula.specs.Fragments.{IsEa}
use Rattle.rml_command.specs.Models.{ModelTree}
use Rattle.fol_formula.specs.Sentences.{all_of}
use Rattle.rml_command.specs.declared.goal.Goal.{Goal}
use Rattle.rml_command.specs.declared.goal.Stage.{Stage}
use Rattle.rml_command.specs.declared.goal.Stage.TheVariants as stage
use Rattle.rml_wp.specs.declared.premises.Premises.TheVariants.{All}
use Rattle.rml_wp.specs.Preconditions.{answered, parts_before, goal_precondition}
use Rattle.rml_wp.specs.Added.{refuting_where, IsRefutingSentence}
use Rattle.limits.specs.Ceilings.{Ceilings}
use Rattle.ea_decide.specs.Measuring.{IsMeasured}
use Rattle.ea_decide.specs.declared.decided.Measured.{Measured}
use Rattle.obligation_decide.specs.Costs.{held_before}
use Rattle.obligation_decide.proofs.SameAnswer.{axioms_of}

-- the parts as they are counted, the axioms first
abbrev pub counted_parts : List FormTree → List FormTree → FormTree → List FormTree → FormTree
counted_parts axioms held precondition more =
    all_of (all_of axioms ∷ (held ++ (negation precondition ∷ (more ++ []))))

in_order : (st : Stage) (axioms held more : List FormTree) (p : FormTree)
    → counted_parts axioms (held_before st held) p more
    ≡ all_of ((parts_before st (all_of axioms) (all_of held) ++ negation p ∷ []) ++ more)
in_order stage.Init axioms held more p =
    ap (λ qs. all_of (all_of axioms ∷ (negation p ∷ qs))) (append-nil more)
in_order (stage.Action a) axioms held more p =
    ap (λ qs. all_of (all_of axioms ∷ (all_of held ∷ (negation p ∷ qs)))) (append-nil more)
in_order stage.Final axioms held more p =
    ap (λ qs. all_of (all_of axioms ∷ (all_of held ∷ (negation p ∷ qs)))) (append-nil more)

is_refuting : (m : ModelTree) (goal : Goal) (axioms held more : List FormTree) (p : FormTree) → axioms ≡ m.axioms
    → held ≡ held_before goal.stage m.conjectures → p ≡ goal_precondition All m goal
    → counted_parts axioms held p more ≡ refuting_where All m m.conjectures more goal
is_refuting m goal axioms held more p same before is =
    ap (λ (ps : List FormTree). counted_parts ps held p more) same
    ∙ ap (λ (ps : List FormTree). counted_parts m.axioms ps p more) before
    ∙ ap (λ (q : FormTree). counted_parts m.axioms (held_before goal.stage m.conjectures) q more) is
    ∙ in_order goal.stage m.axioms m.conjectures more (goal_precondition All m goal)

-- the parts that a model lends
pub lent : (m given : ModelTree) (goal : Goal) (axioms conjectures held more : List FormTree) (p q : FormTree)
    → given ≡ m → axioms ≡ given.axioms → conjectures ≡ given.conjectures → held ≡ held_before goal.stage conjectures
    → p ≡ q → q ≡ goal_precondition All m goal → counted_parts axioms held p more ≡ refuting_where All m m.conjectures more goal
lent m given goal axioms conjectures held more p q same by_axioms by_conjectures by_held is before =
    let of_model = by_conjectures ∙ ap (λ (z : ModelTree). z.conjectures) same in
    is_refuting m goal axioms held more p (axioms_of axioms given m by_axioms same)
    (by_held ∙ ap (λ (cs : List FormTree). held_before goal.stage cs) of_model) (is ∙ before)

module _ (m : ModelTree) (goal : Goal) (more : List FormTree) (p : FormTree)
    (is : p ≡ refuting_where All m m.conjectures more goal) where
  pub in_fragment : IsRefutingSentence All m m.conjectures more goal → IsEa p
  in_fragment h = subst (λ (q : FormTree). IsEa q) (sym is) h.fragment

  pub fits_given : (given : Declared) → given ≡ answered m goal → IsRefutingSentence All m m.conjectures more goal
      → FitsForm (symbols given) [] p
  fits_given given same h =
      subst (λ (z : Declared). FitsForm (symbols z) [] p) (sym same)
      (subst (λ (q : FormTree). FitsForm (symbols (answered m goal)) [] q) (sym is) h.fits)

  pub measured_as : (limits : Ceilings) (given : Declared) (d e : Measured) → d ≡ e
      → IsMeasured limits given p d → IsMeasured limits given (refuting_where All m m.conjectures more goal) e
  measured_as limits given d e answer h =
      subst (λ (q : FormTree). IsMeasured limits given q e) is
      (subst (λ (a : Measured). IsMeasured limits given p a) answer h)
