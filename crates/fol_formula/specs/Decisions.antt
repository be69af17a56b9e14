-- Whether a formula lies in a fragment is always decided.
use Rattle.std.specs.Prelude.{◌⊎◌, Bool}
use Rattle.fol_formula.specs.Syntax.{FormTree}
use Rattle.fol_formula.specs.Fragments.{IsUniversal, IsExistsForall}

-- A formula is of a fragment or it is not.
pub record FragmentsAreDecided : Type 0 where
  pub universal : (positive : Bool) (p : FormTree) → IsUniversal positive p ⊎ (IsUniversal positive p → ⊥)
  pub exists_forall : (positive : Bool) (p : FormTree) → IsExistsForall positive p ⊎ (IsExistsForall positive p → ⊥)
