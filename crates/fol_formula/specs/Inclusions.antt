-- How the fragments lie in one another.
use Rattle.std.specs.Prelude.{Bool, ◌↔◌}
use Rattle.fol_formula.specs.Syntax.{FormTree, negation}
use Rattle.fol_formula.specs.Fragments.{IsUniversal, IsExistsForall, IsQuantifierFree, HasPlainTerms, IsNormalForm}
use Rattle.fol_formula.specs.Fragments.{IsEa, IsAe, IsPlainUniversal, IsNormal}

-- the negation of an Ae is an Ea, and that of an Ea an Ae
pub record NegationExchanges : Type 0 where
  pub of_ae : (p : FormTree) → IsAe p ↔ IsEa (negation p)
  pub of_ea : (p : FormTree) → IsEa p ↔ IsAe (negation p)

-- a universal formula is exists-forall
abbrev pub UniversalIsEa : Type 0
UniversalIsEa = (p : FormTree) → IsPlainUniversal p → IsEa p

-- an exists-forall formula in normal form has no quantifier inside a term
abbrev pub NormalIsEa : Type 0
NormalIsEa = (p : FormTree) → IsNormal p → IsEa p

-- without quantifiers a formula is universal and exists-forall, as it stands and negated
pub record QuantifierFree (p : FormTree) : Type 0 where
  pub universal : (positive : Bool) → IsUniversal positive p
  pub exists_forall : (positive : Bool) → IsExistsForall positive p
  pub plain : HasPlainTerms p

-- each formula without quantifiers is of these fragments
abbrev pub QuantifierFreeIsUniversal : Type 0
QuantifierFreeIsUniversal = (p : FormTree) → IsQuantifierFree p → QuantifierFree p

-- a universal formula is exists-forall, as it stands and negated
abbrev pub UniversalIsExistsForall : Type 0
UniversalIsExistsForall = (positive other : Bool) (p : FormTree) → IsUniversal positive p → IsExistsForall other p

-- the negation of a universal formula is exists-forall
abbrev pub UniversalIsAe : Type 0
UniversalIsAe = (p : FormTree) → IsPlainUniversal p → IsAe p

-- without `ite` no quantifier stands inside a term
abbrev pub NormalHasPlainTerms : Type 0
NormalHasPlainTerms = (p : FormTree) → IsNormalForm p → HasPlainTerms p
