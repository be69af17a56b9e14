-- What the calls answer.
use Rattle.std.specs.Prelude.{◌≡◌, ℕ, ◌+◌, ◌≤◌, ◌^◌, false, List, ◌++◌, length}
use Rattle.fol_sig.specs.Tables.{Reading}
use Rattle.fol_sig.specs.Symbols.{Symbols}
use Rattle.fol_formula.specs.Syntax.{FormTree}
use Rattle.fol_formula.specs.Truth.{truth}
use Rattle.fol_formula.specs.Fits.{FitsForm}
use Rattle.fol_subst.specs.Shift.{shift_form}
use Rattle.fol_subst.specs.Replace.{Change, CanChange, changed_form, IsReplaced}
use Rattle.fol_subst.specs.Structures.{IsReplacedInStructures}
use Rattle.fol_subst.specs.KeptFragments.{HasNoQuantifier, KeepsFragments}
use Rattle.fol_formula.specs.Indices.{IndicesFit}
use Rattle.fol_subst.specs.Limits.{is_too_large}

-- what a replacement is asked of: the formula and what replaces the symbol fit a signature, and no index of the result
-- is above 4294967295, unless the result is too large
pub record CanReplace (within : FormTree) (c : Change) : Type 0 where
  pub sig : Symbols
  pub sorts : List ℕ
  pub within_fits : FitsForm sig sorts within
  pub change_fits : CanChange sig sorts c
  pub indices : is_too_large (changed_form c 0 within) ≡ false → IndicesFit (changed_form c 0 within)

-- under a list of sorts that leaves room for a thousand binders, what fits may be replaced
abbrev pub ShortListsSuffice : Type 0
ShortListsSuffice = (sig : Symbols) (sorts : List ℕ) (within : FormTree) (c : Change) → FitsForm sig sorts within
    → CanChange sig sorts c → length sorts + 1000 ≤ 2 ^ 32 → CanReplace within c

-- what a shift is asked of: no index of the result is above 4294967295, unless the result is too large
abbrev pub CanShift : FormTree → ℕ → ℕ → Type 0
CanShift within from by = is_too_large (shift_form from by within) ≡ false → IndicesFit (shift_form from by within)

-- under a list of sorts that leaves room for a thousand binders and for so many more sorts, what fits may be shifted by
-- that many
abbrev pub ShortListsAllowShifts : Type 0
ShortListsAllowShifts = (sig : Symbols) (sorts : List ℕ) (within : FormTree) (from by : ℕ) → FitsForm sig sorts within
    → length sorts + by + 1000 ≤ 2 ^ 32 → CanShift within from by

-- the new formula means in a structure what the old one means in the changed structure, it fits where the old one does,
-- and it stays in its fragments
pub record KeepsMeaning (within : FormTree) (c : Change) (new : FormTree) : Type 0 where
  pub truth : IsReplaced within c new
  pub in_structures : IsReplacedInStructures within c new
  pub fits : (sig : Symbols) (sorts : List ℕ) → FitsForm sig sorts within → CanChange sig sorts c
      → FitsForm sig sorts new
  pub fragments : HasNoQuantifier c → KeepsFragments within new

-- the replaced formula
pub record IsReplacement (within : FormTree) (c : Change) (new : FormTree) : Type 0 where
  pub tree : new ≡ changed_form c 0 within
  pub meaning : KeepsMeaning within c new
  pub small : is_too_large new ≡ false

-- wherever what replaces the symbol fits it
abbrev pub ReplacementKeepsMeaning : Type 0
ReplacementKeepsMeaning = (sig : Symbols) (sorts : List ℕ) (within : FormTree) (c : Change) → FitsForm sig sorts within
    → CanChange sig sorts c → KeepsMeaning within c (changed_form c 0 within)

-- the shifted formula: elements, and sorts, may be put into the list at `from`
pub record IsShifted (within : FormTree) (from by : ℕ) (new : FormTree) : Type 0 where
  pub tree : new ≡ shift_form from by within
  pub truth : (s : Reading) (front mid back : List ℕ) → length front ≡ from → length mid ≡ by
      → truth s new (front ++ (mid ++ back)) ≡ truth s within (front ++ back)
  pub fits : (sig : Symbols) (front mid back : List ℕ) → length front ≡ from → length mid ≡ by
      → FitsForm sig (front ++ back) within → FitsForm sig (front ++ (mid ++ back)) new
  pub small : is_too_large new ≡ false
