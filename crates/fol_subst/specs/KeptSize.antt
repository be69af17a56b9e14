-- What is replaced or shifted without a change of size.
use Rattle.std.specs.Prelude.{◌≡◌, ℕ, List}
use Rattle.fol_sig.specs.Symbols.{Symbols}
use Rattle.fol_formula.specs.Syntax.{FormTree}
use Rattle.fol_formula.specs.Counts.{form_nodes, form_depth}
use Rattle.fol_formula.specs.Fits.{FitsForm}
use Rattle.fol_subst.specs.Shift.{shift_form}
use Rattle.fol_subst.specs.Replace.{change_const, changed_form, CanChange}

-- as many nodes, and as deep
pub record SameSize (within new : FormTree) : Type 0 where
  pub nodes : form_nodes new ≡ form_nodes within
  pub depth : form_depth new ≡ form_depth within

-- raising indices changes no size
abbrev pub ShiftKeepsSize : Type 0
ShiftKeepsSize = (within : FormTree) (from by : ℕ) → SameSize within (shift_form from by within)

-- a bound variable in the place of a program variable
abbrev pub IndexKeepsSize : Type 0
IndexKeepsSize = (sig : Symbols) (sorts : List ℕ) (within : FormTree) (v index : ℕ) → FitsForm sig sorts within
    → CanChange sig sorts (change_const v index) → SameSize within (changed_form (change_const v index) 0 within)
