-- The arguments that the result has: another one is left out, with an index in its place.
use Rattle.std.specs.Prelude.{ℕ, ◌==◌, if◌then◌else◌}
use Rattle.fol_formula.specs.Syntax.{TermTree, TermTrees, bound, no_terms, term_then, size_of}
use Rattle.fol_subst.specs.Replace.{Change}
use Rattle.fol_subst.specs.Extents.{places_of}

-- the argument of parameter i
abbrev pub kept_one : Change → ℕ → TermTree → TermTree
kept_one c i t = if (places_of c i).depth == 0 then bound 0 else t

-- each argument whose parameter stands in what replaces the symbol, and index 0 in the place of any other
abbrev pub kept : Change → TermTrees → TermTrees
kept c no_terms = no_terms
kept c (term_then t ts) = term_then (kept_one c (size_of ts) t) (kept c ts)
