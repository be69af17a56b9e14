-- Replacement and the fragments of sentences.
use Rattle.std.specs.Prelude.{◌≡◌, Bool}
use Rattle.fol_formula.specs.Syntax.{FormTree}
use Rattle.fol_formula.specs.Fragments.{IsUniversal, IsExistsForall, IsQuantifierFree, IsQuantifierFreeTerm}
use Rattle.fol_formula.specs.Fragments.{HasPlainTerms}
use Rattle.fol_formula.specs.NormalForms.{normal_form}
use Rattle.fol_formula.specs.Witnesses.{some_sorts}
use Rattle.fol_subst.specs.Replace.{Change, change_rel, change_fun, change_const}

-- what replaces the symbol has no quantifier
abbrev pub HasNoQuantifier : Change → Type 0
HasNoQuantifier (change_rel r by) = IsQuantifierFree by
HasNoQuantifier (change_fun g by) = IsQuantifierFreeTerm by
HasNoQuantifier (change_const g index) = Unit {0}

-- the new formula lies in each fragment in which the old one lies, and its normal form has the existentials of the old
-- one's, in their order
pub record KeepsFragments (within new : FormTree) : Type 0 where
  pub universal : (positive : Bool) → IsUniversal positive within → IsUniversal positive new
  pub exists_forall : (positive : Bool) → IsExistsForall positive within → IsExistsForall positive new
  pub plain : HasPlainTerms within → HasPlainTerms new
  pub quantifier_free : IsQuantifierFree within → IsQuantifierFree new
  pub existentials : (positive : Bool) → some_sorts (normal_form positive new)
      ≡ some_sorts (normal_form positive within)
