-- The paths that routes take through a list of primitives.
use Rattle.std.specs.Prelude.{◌≡◌, ◌<◌, ◌≤◌, ◌++◌, ℕ, List, length, map, slice_index_or}
use Rattle.std.specs.List.{AllByRecursion}
use Rattle.rml_command.specs.Trees.{PrimitiveTree, abort}
use Rattle.rml_command.specs.View.{primitive}
use Rattle.rml_command.specs.Paths.{has_abort}
use Rattle.rml_command.specs.Spans.{RouteTree}
use Rattle.rml_command.specs.declared.span.Span.{Span}
use Rattle.rml_command.specs.declared.command.Primitive.{Primitive}

-- the primitive at a place of the list; behind its end, abort
abbrev pub primitive_at : List Primitive → ℕ → PrimitiveTree
primitive_at ps i = slice_index_or (map primitive ps) i abort

-- the primitives at these places
abbrev pub primitives_at : List Primitive → List ℕ → List PrimitiveTree
primitives_at ps places = map (primitive_at ps) places

-- the path that a route takes
abbrev pub path_along : List Primitive → RouteTree → List PrimitiveTree
path_along ps r = primitives_at ps r.places

-- these are places of the list
abbrev pub AreWithin : List Primitive → List ℕ → Type 0
AreWithin ps places = AllByRecursion (λ i. i < length ps) places

-- the span ends within the list, if it has a place
abbrev pub IsSpanOf : List Primitive → Span → Type 0
IsSpanOf ps s = s.start < s.end → s.end ≤ length ps

-- the route's places are places of the list, and it is marked where its path aborts
pub record IsRoute (ps : List Primitive) (r : RouteTree) : Type 0 where
  pub within : AreWithin ps r.places
  pub marked : r.aborts ≡ has_abort (path_along ps r)

-- the list was pushed to
pub record Grows (old new : List Primitive) : Type 0 where
  pub more : List Primitive
  pub is : new ≡ old ++ more
