-- The paths of a block.
use Rattle.std.specs.Prelude.{◌≡◌, ℕ, suc, Bool, true, false, ◌||◌, if◌then◌else◌, List, [], ◌∷◌, ◌++◌, map}
use Rattle.std.specs.List.{flat_map}
use Rattle.rml_command.specs.Trees.{
  PrimitiveTree,
  assume,
  set_rel,
  set_fun,
  havoc,
  havoc_rel,
  abort,
  CommandTree,
  CommandTrees,
  prim,
  seq,
  choose,
  no_commands,
  command_then,
}

-- how many paths a block may have
abbrev pub max_paths : ℕ
max_paths = 4096

abbrev pub is_abort : PrimitiveTree → Bool
is_abort (assume p) = false
is_abort (set_rel r by) = false
is_abort (set_fun f by) = false
is_abort (havoc v) = false
is_abort (havoc_rel r) = false
is_abort abort = true

-- whether a path ends in abort: no path goes on behind its first one
abbrev pub has_abort : List PrimitiveTree → Bool
has_abort [] = false
has_abort (q ∷ qs) = is_abort q || has_abort qs

-- nothing stands behind an abort
abbrev pub EndsAtAbort : List PrimitiveTree → Type 0
EndsAtAbort [] = Unit {0}
EndsAtAbort (q ∷ qs) = (is_abort q ≡ true → qs ≡ []) × EndsAtAbort qs

-- a path goes on with each of the others, or stands once, as it is, where it ends in abort
abbrev pub continued : List (List PrimitiveTree) → List PrimitiveTree → List (List PrimitiveTree)
continued rest p = if has_abort p then p ∷ [] else map (λ q. p ++ q) rest

-- The paths of a command, in order. `skip` has one empty path; a sequence goes on from each path of its first part with
-- those of the others; a choice has the paths of its first branch first.
abbrev mutual
  pub paths_of : CommandTree → List (List PrimitiveTree)
  paths_of (prim q) = (q ∷ []) ∷ []
  paths_of (seq cs) = paths_in_turn cs
  paths_of (choose cs) = paths_of_each cs

  pub paths_in_turn : CommandTrees → List (List PrimitiveTree)
  paths_in_turn no_commands = [] ∷ []
  paths_in_turn (command_then c cs) = flat_map (continued (paths_in_turn cs)) (paths_of c)

  pub paths_of_each : CommandTrees → List (List PrimitiveTree)
  paths_of_each no_commands = []
  paths_of_each (command_then c cs) = paths_of c ++ paths_of_each cs

-- how many entries following a path takes, one for each havoc
abbrev pub havoc_count : List PrimitiveTree → ℕ
havoc_count [] = 0
havoc_count (assume p ∷ qs) = havoc_count qs
havoc_count (set_rel r by ∷ qs) = havoc_count qs
havoc_count (set_fun f by ∷ qs) = havoc_count qs
havoc_count (havoc v ∷ qs) = suc (havoc_count qs)
havoc_count (havoc_rel r ∷ qs) = suc (havoc_count qs)
havoc_count (abort ∷ qs) = havoc_count qs
