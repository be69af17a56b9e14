-- A path as the places of its primitives in the list of its block's, kept as spans.
use Rattle.std.specs.Prelude.{◌≡◌, ℕ, ◌-◌, ◌<◌, Bool, true, false, if◌then◌else◌, List, [], ◌∷◌, ◌++◌, map}
use Rattle.std.specs.List.{flat_map}
use Rattle.base.specs.Lists.{count_from}
use Rattle.rml_command.specs.declared.span.Span.{Span}

-- the places of a span
abbrev pub places_in : Span → List ℕ
places_in s = count_from s.start (s.end - s.start)

-- the places of spans, one span after another
abbrev pub places_of : List Span → List ℕ
places_of spans = flat_map places_in spans

-- the span has a place
abbrev pub IsFilled : Span → Type 0
IsFilled s = s.start < s.end

-- the places of a path, and whether it ends in abort
pub record RouteTree : Type 0 where
  pub places : List ℕ
  pub aborts : Bool

-- the route of `skip`
abbrev pub no_route : RouteTree
no_route = record { places = []; aborts = false }

-- the one route, and behind it the other, by which it ends
abbrev pub joined : RouteTree → RouteTree → RouteTree
joined r q = record { places = r.places ++ q.places; aborts = q.aborts }

-- a route goes on with the other, or stands as it is where it ends in abort
abbrev pub longer : RouteTree → RouteTree → RouteTree
longer r q = if r.aborts then r else joined r q

-- a route goes on with each of the others, or stands once, as it is, where it ends in abort
abbrev pub routes_on : List RouteTree → RouteTree → List RouteTree
routes_on rest r = if r.aborts then r ∷ [] else map (joined r) rest

-- the route goes no further
abbrev pub Stops : RouteTree → Type 0
Stops r = r.aborts ≡ true
