-- Replacement in finite structures.
use Rattle.std.specs.Prelude.{◌≡◌, ℕ, List, slice_index}
use Rattle.fol_sig.specs.Tables.{Tables, InRange, reading}
use Rattle.fol_sig.specs.Symbols.{Symbols, FitsStructure}
use Rattle.fol_sig.specs.Updates.{with_relation, with_function}
use Rattle.fol_formula.specs.Syntax.{FormTree}
use Rattle.fol_formula.specs.Truth.{truth, value}
use Rattle.fol_formula.specs.Fits.{FitsForm}
use Rattle.fol_subst.specs.Replace.{Change, change_rel, change_fun, change_const, CanChange}

-- the structure with the symbol's table set to the values of what replaces it
abbrev pub changed_structure : Tables → Change → List ℕ → Tables
changed_structure s (change_rel r by) env = with_relation s r (λ tuple. truth (reading s) by tuple)
changed_structure s (change_fun g by) env = with_function s g (λ tuple. value (reading s) by tuple)
changed_structure s (change_const g index) env = with_function s g (λ tuple. slice_index env index)

-- in each structure of the signature the new formula is true exactly where the old one is true in the changed structure
abbrev pub IsReplacedInStructures : FormTree → Change → FormTree → Type 0
IsReplacedInStructures within c new = (sig : Symbols) (sorts : List ℕ) (s : Tables) (env : List ℕ)
    → FitsStructure sig s → FitsForm sig sorts within → CanChange sig sorts c → InRange s.sizes sorts env
    → truth (reading s) new env ≡ truth (reading (changed_structure s c env)) within env
