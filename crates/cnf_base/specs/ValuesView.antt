-- How truth values are kept: as the variables that are true, rising.
use Rattle.std.specs.Prelude.{ℕ, zero, suc, ◌+◌, Bool, List, [], ◌∷◌}
use Rattle.cnf_base.specs.declared.values.Values.TheInside.{Inside}
use Rattle.cnf_base.specs.Literals.{member}
use Rattle.cnf_base.specs.Rising.{AreRising}

-- whether each of n variables, from `first` on, is one of those that are true
unfoldable pub values_from : ℕ → ℕ → List ℕ → List Bool
values_from first zero trues = []
values_from first (suc n) trues = member first trues ∷ values_from (first + 1) n trues

-- the values of the variables 1 to the last
abbrev pub value_of_values : Inside → List Bool
value_of_values a = values_from 1 a.variables a.trues.items

-- the variables that are true are rising, from 1 to the last at most
abbrev pub IsValues : Inside → Type 0
IsValues a = AreRising a.variables 0 a.trues.items
