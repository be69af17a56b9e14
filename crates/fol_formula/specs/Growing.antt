-- Formulas of a signature that grows.
use Rattle.std.specs.Prelude.{◌≡◌, ℕ, List}
use Rattle.fol_sig.specs.Tables.{Reading}
use Rattle.fol_sig.specs.Symbols.{Symbols}
use Rattle.fol_sig.specs.Growing.{Grows, AreReadAlike}
use Rattle.fol_formula.specs.Syntax.{FormTree, TermTree}
use Rattle.fol_formula.specs.Truth.{truth, value}
use Rattle.fol_formula.specs.Fits.{FitsForm, FitsTerm}

-- what fits the signature fits the grown one
pub record KeepsFitting (sig more : Symbols) : Type 0 where
  pub formulas : (sorts : List ℕ) (p : FormTree) → FitsForm sig sorts p → FitsForm more sorts p
  pub terms : (sorts : List ℕ) (t : TermTree) (k : ℕ) → FitsTerm sig sorts t k → FitsTerm more sorts t k

-- what fits some symbols fits those that they grow to
abbrev pub FittingIsKept : Type 0
FittingIsKept = (sig more : Symbols) → Grows sig more → KeepsFitting sig more

-- what fits has one truth and one value in structures that are read alike
pub record ReadsItsOwn (sig : Symbols) (a b : Reading) : Type 0 where
  pub formulas : (p : FormTree) (sorts env : List ℕ) → FitsForm sig sorts p → truth a p env ≡ truth b p env
  pub terms : (t : TermTree) (sorts env : List ℕ) (k : ℕ) → FitsTerm sig sorts t k → value a t env ≡ value b t env

-- what fits the symbols is equally true, and has equal values, in structures that are read alike at them
abbrev pub TruthReadsItsOwn : Type 0
TruthReadsItsOwn = (sig : Symbols) (a b : Reading) → AreReadAlike sig a b → ReadsItsOwn sig a b
