-- What the constants of the code stand for.
use Rattle.std.specs.Prelude.{ℕ, ◌+◌, List, [], ◌∷◌, length}
use Rattle.skolem.specs.Constants.{Slot, constant}
use Rattle.pool_skolem.specs.declared.scope.Scope.{Scope, Outside, Inside'}

-- constants of these sorts, in order, behind so many functions
pub record Named : Type 0 where
  pub functions : ℕ
  pub sorts : List ℕ

-- the number of the next constant
abbrev pub next : Named → ℕ
next named = named.functions + length named.sorts

-- what each index in the scope stands for, the nearest first
abbrev pub slots : Scope → List Slot
slots Outside = []
slots (Inside' f p outer) = constant f.0 ∷ slots outer
