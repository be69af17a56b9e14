-- What a step back needs.
use Rattle.std.proofs.Common.{◌≡◌, ℕ, ◌+◌, Bool, true, List, [], ◌∷◌, ◌++◌, sym, ap, ◌∙◌, subst, arith}
use Rattle.base.proofs.Lists.{all_back}
use Rattle.std.specs.List.{AllByRecursion}
use Rattle.fol_sig.specs.Symbols.{Symbols}
use Rattle.fol_formula.specs.Syntax.{FormTree, implication}
use Rattle.fol_formula.specs.Fits.{FitsForm}
use Rattle.fol_formula.specs.Closed.{FitsUnderMore}
use Rattle.fol_subst.specs.Replace.{Change, change_const, CanChange, changed_form}
use Rattle.fol_subst.specs.Outcome.{CanReplace, ShortListsSuffice}
use Rattle.fol_subst.specs.Unchanged.{is_own_value, OwnValueChangesNothing}
use Rattle.rml_command.specs.Trees.{PrimitiveTree, havoc}
use Rattle.fol_formula.specs.Sentences.{all_of}
use Rattle.rml_command.specs.Models.{FitsStep, FitsSteps}
use Rattle.rml_command.specs.Fresh.{written}
use Rattle.rml_wp.specs.Written.{relation_havocs, written_step}
use Rattle.rml_wp.specs.Backward.{IsBack, written_whole}
use Rattle.rml_wp.specs.Preconditions.{where_lawful}
use Rattle.rml_wp.proofs.WithoutTables.{steps-fit}
use Rattle.rml_wp.proofs.StepTruth.{Replaces, lawful-fits, precondition-fits, one_change}

module _ (conditions : ShortListsSuffice) (sig : Symbols) (given axioms : List FormTree) (rest w : FormTree)
    (fit : AllByRecursion (FitsForm sig []) axioms) (h : FitsForm sig [] rest) (same : given ≡ axioms)
    (is : w ≡ where_lawful given rest) where
  within_fits : FitsForm sig [] w
  within_fits =
      subst (FitsForm sig []) (sym (is ∙ ap (λ a. where_lawful a rest) same)) (lawful-fits sig axioms rest fit h)

  pub ready : (c : Change) → CanChange sig [] c → CanReplace w c
  ready c can = conditions sig [] w c within_fits can (omega arith)

  pub ready_one : FitsUnderMore → (v : ℕ) → FitsStep sig (havoc v) → CanReplace w (change_const v 0)
  ready_one under v f =
      conditions sig (sig.into_of v ∷ []) w (change_const v 0) (under sig w [] (sig.into_of v ∷ []) within_fits)
      (one_change sig v f) (omega arith)

-- where a symbol is set to itself
pub unchanged : OwnValueChangesNothing → (sig : Symbols) (given axioms : List FormTree) (lawful rest : FormTree)
    → AllByRecursion (FitsForm sig []) axioms → FitsForm sig [] rest → given ≡ axioms → lawful ≡ all_of given
    → (c : Change) → CanChange sig [] c → (own : Bool) → own ≡ is_own_value c → own ≡ true
    → implication lawful rest ≡ changed_form c 0 (where_lawful axioms rest)
unchanged law sig given axioms lawful rest fit h same all c can own is yes_own =
    ap (λ p. implication p rest) (all ∙ ap all_of same)
    ∙ sym (law sig [] (where_lawful axioms rest) c (lawful-fits sig axioms rest fit h) can (sym is ∙ yes_own))

-- ---- a path that was gone back

module _ (own sig : Symbols) (premises : PrimitiveTree → List FormTree) (target : FormTree) (n : ℕ)
    (path before rest : List PrimitiveTree) (q : PrimitiveTree) (behind : ℕ) (now : FormTree)
    (step : before ≡ rest ++ q ∷ []) (h : IsBack own sig premises target n path before behind now) (fresh : ℕ)
    (less : fresh + relation_havocs (q ∷ []) ≡ behind) (fits : FitsSteps sig (written own n path)) where
  behind-fits : FitsSteps sig (written_step own fresh q ∷ written own behind h.behind)
  behind-fits =
      all_back (FitsStep sig) (written own n rest) (written_step own fresh q ∷ written own behind h.behind)
      (subst (FitsSteps sig)
      (written_whole own sig premises target n path before rest q behind now step h fresh less) fits)

  pub one-fits : FitsStep sig (written_step own fresh q)
  one-fits = behind-fits.0

  pub formula-fits : Replaces → ((p : PrimitiveTree) → AllByRecursion (FitsForm sig []) (premises p))
      → FitsForm sig [] target → FitsForm sig [] now
  formula-fits laws a t =
      subst (FitsForm sig []) (sym h.tree)
      (precondition-fits laws sig premises target (written own behind h.behind) a t
      (steps-fit sig (written own behind h.behind) behind-fits.1))
