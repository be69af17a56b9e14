-- The binders of a scope, the nearest one first.
use Rattle.std.specs.Prelude.{ℕ, ◌+◌, List, [], ◌∷◌, map}
use Rattle.fol_sig.specs.Arguments.{max_arguments}
use Rattle.rml_terms.specs.Shape.{max_nesting}
use Rattle.rml_names.specs.declared.scope.Scope.{Scope}
use Rattle.rml_names.specs.declared.scope.Scope.TheOpen.{Scope-F}
use Rattle.rml_names.specs.declared.scope.Scope.TheFolds.{fold-Scope}
use Rattle.rml_names.specs.Meanings.{BoundName}

-- how many names may be bound at a place: by the binders of a sentence, and as parameters outside them
abbrev pub max_bound : ℕ
max_bound = max_nesting + max_arguments

-- one binder more, before those outside
abbrev pub scope_step : Scope-F (List BoundName) → List BoundName
scope_step Scope-F.Outside = []
scope_step (Scope-F.Inside b outer) = record { name = b.name.now; sort = b.sort } ∷ outer.now

abbrev pub bound_names : Scope → List BoundName
bound_names = fold-Scope (List BoundName) scope_step

abbrev pub names_of : List BoundName → List (List ℕ)
names_of bound = map (λ b. b.name) bound
