-- Two structures that agree wherever a formula looks.
use Rattle.std.specs.Prelude.{◌≡◌, ℕ, ◌<◌, List, slice_index}
use Rattle.fol_sig.specs.Tables.{Tables, Reading, InRange, reading, size_at}
use Rattle.fol_sig.specs.Symbols.{Symbols, FitsStructure}
use Rattle.fol_formula.specs.Syntax.{FormTree, TermTree}
use Rattle.fol_formula.specs.Truth.{truth, value}
use Rattle.fol_formula.specs.Fits.{FitsForm, FitsTerm}

-- they have these sizes, and one truth and one element in range for each tuple in range
pub record Agree (sig : Symbols) (sizes : List ℕ) (a b : Reading) : Type 0 where
  pub size : (k : ℕ) → k < sig.sorts → a.size k ≡ slice_index sizes k
  pub same_size : (k : ℕ) → k < sig.sorts → b.size k ≡ slice_index sizes k
  pub rel : (r : ℕ) (xs : List ℕ) → r < sig.relations → InRange sizes (sig.sorts_of r) xs → a.rel r xs ≡ b.rel r xs
  pub fun : (f : ℕ) (xs : List ℕ) → f < sig.functions → InRange sizes (sig.from_of f) xs → a.fun f xs ≡ b.fun f xs
  pub within : (f : ℕ) (xs : List ℕ) → f < sig.functions → InRange sizes (sig.from_of f) xs
      → a.fun f xs < slice_index sizes (sig.into_of f)

-- a formula that fits has the same truth in both
abbrev pub TruthAgrees : Type 0
TruthAgrees = (sig : Symbols) (sizes : List ℕ) (a b : Reading) (p : FormTree) (sorts env : List ℕ) → Agree sig sizes a b
    → FitsForm sig sorts p → InRange sizes sorts env → truth a p env ≡ truth b p env

-- a term that fits has the same value in both
abbrev pub ValuesAgree : Type 0
ValuesAgree = (sig : Symbols) (sizes : List ℕ) (a b : Reading) (t : TermTree) (sorts env : List ℕ) (k : ℕ)
    → Agree sig sizes a b → FitsTerm sig sorts t k → InRange sizes sorts env → value a t env ≡ value b t env

-- the value of a term that fits is an element of its sort
abbrev pub ValuesAreInRange : Type 0
ValuesAreInRange = (sig : Symbols) (s : Tables) (t : TermTree) (sorts env : List ℕ) (k : ℕ) → FitsStructure sig s
    → FitsTerm sig sorts t k → InRange s.sizes sorts env → value (reading s) t env < size_at s k
