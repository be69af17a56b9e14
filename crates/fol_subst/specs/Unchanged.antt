-- A symbol that is set to its own value: such a replacement changes nothing.
use Rattle.std.specs.Prelude.{◌≡◌, ℕ, ◌==◌, ◌&&◌, Bool, true, false, List}
use Rattle.fol_sig.specs.Symbols.{Symbols}
use Rattle.fol_formula.specs.Syntax.{FormTree, TermTree, TermTrees, rel, bound, app, no_terms, term_then, size_of}
use Rattle.fol_formula.specs.Fits.{FitsForm}
use Rattle.fol_subst.specs.Replace.{Change, change_rel, change_fun, change_const, CanChange, changed_form}

-- whether the term is this index
abbrev pub is_index : ℕ → TermTree → Bool
is_index i (bound n) = n == i
is_index i _ = false

-- a symbol's parameters in order, the last one 0
abbrev pub are_parameters : TermTrees → Bool
are_parameters no_terms = true
are_parameters (term_then t ts) = is_index (size_of ts) t && are_parameters ts

-- the relation before its parameters
abbrev pub is_own_rel : ℕ → FormTree → Bool
is_own_rel r (rel q args) = q == r && are_parameters args
is_own_rel r _ = false

-- the function before its parameters
abbrev pub is_own_fun : ℕ → TermTree → Bool
is_own_fun g (app f args) = f == g && are_parameters args
is_own_fun g _ = false

-- what replaces the symbol is its own value
abbrev pub is_own_value : Change → Bool
is_own_value (change_rel r by) = is_own_rel r by
is_own_value (change_fun g by) = is_own_fun g by
is_own_value (change_const g index) = false

-- a formula that fits stays as it is where a symbol is set to its own value
abbrev pub OwnValueChangesNothing : Type 0
OwnValueChangesNothing = (sig : Symbols) (sorts : List ℕ) (within : FormTree) (c : Change) → FitsForm sig sorts within
    → CanChange sig sorts c → is_own_value c ≡ true → changed_form c 0 within ≡ within
