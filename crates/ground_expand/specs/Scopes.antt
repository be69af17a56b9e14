-- The sorts and the terms of the bound variables, the nearest first.
use Rattle.std.specs.Prelude.{ℕ, List, [], ◌∷◌}
use Rattle.ground_expand.specs.declared.scope.Scope.{Scope, Outside, Bound'}

-- the sorts of the bound variables
abbrev pub sorts_in : Scope → List ℕ
sorts_in Outside = []
sorts_in (Bound' k x p outer) = k.0 ∷ sorts_in outer

-- the places of the terms that the bound variables stand for
abbrev pub terms_in : Scope → List ℕ
terms_in Outside = []
terms_in (Bound' k x p outer) = x ∷ terms_in outer
