-- A formula reads no element beyond those of its indices.
use Rattle.std.specs.Prelude.{◌≡◌, ℕ, List, ◌++◌, length}
use Rattle.fol_sig.specs.Tables.{Reading}
use Rattle.fol_sig.specs.Symbols.{Symbols}
use Rattle.fol_formula.specs.Syntax.{FormTree, TermTree}
use Rattle.fol_formula.specs.Truth.{truth, value}
use Rattle.fol_formula.specs.Fits.{FitsForm, FitsTerm, BoundForm, BoundTerm}

-- what fits has no index beyond the list of sorts
abbrev pub FitsIsBound : Type 0
FitsIsBound = (sig : Symbols) (sorts : List ℕ) (p : FormTree) → FitsForm sig sorts p → BoundForm (length sorts) p

-- the same of a term
abbrev pub FitsIsBoundTerm : Type 0
FitsIsBoundTerm = (sig : Symbols) (sorts : List ℕ) (t : TermTree) (k : ℕ) → FitsTerm sig sorts t k
    → BoundTerm (length sorts) t

-- more elements behind those of its indices change no truth and no value
abbrev pub TruthReadsNoMore : Type 0
TruthReadsNoMore = (s : Reading) (p : FormTree) (env more : List ℕ) → BoundForm (length env) p
    → truth s p (env ++ more) ≡ truth s p env

-- the same of a term
abbrev pub ValueReadsNoMore : Type 0
ValueReadsNoMore = (s : Reading) (t : TermTree) (env more : List ℕ) → BoundTerm (length env) t
    → value s t (env ++ more) ≡ value s t env

-- what fits under some sorts fits under more behind them
abbrev pub FitsUnderMore : Type 0
FitsUnderMore = (sig : Symbols) (p : FormTree) (sorts more : List ℕ) → FitsForm sig sorts p
    → FitsForm sig (sorts ++ more) p

-- the same of a term
abbrev pub FitsUnderMoreTerm : Type 0
FitsUnderMoreTerm = (sig : Symbols) (t : TermTree) (sorts more : List ℕ) (k : ℕ) → FitsTerm sig sorts t k
    → FitsTerm sig (sorts ++ more) t k
