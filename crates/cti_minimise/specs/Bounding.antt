-- The sentences by which a trial bounds the sizes of sorts and the numbers of relations' true tuples.
use Rattle.std.specs.Prelude.{ℕ, suc, ◌-◌, nat_lt, if◌then◌else◌, List, [], ◌∷◌}
use Rattle.fol_sig.specs.Tables.{Declared}
use Rattle.fol_sig.specs.Symbols.{symbols}
use Rattle.fol_formula.specs.Syntax.{FormTree}
use Rattle.cti_minimise.specs.SizeBounds.{size_bound}
use Rattle.cti_minimise.specs.TupleBounds.{tuple_bound}

-- a relation, by its number, is true of at most so many tuples
abbrev pub relation_bound : Declared → ℕ → ℕ → FormTree
relation_bound sig r n = tuple_bound r ((symbols sig).sorts_of r) n

-- the sort at this place has at most n elements, or the relation at this place at most n true tuples
abbrev pub bound_at : Declared → ℕ → ℕ → FormTree
bound_at sig place n = if nat_lt place sig.sorts then size_bound place n else relation_bound sig (place - sig.sorts) n

-- the numbers from a place on are at most these, each bound said so
abbrev pub bounds_by : (ℕ → ℕ → FormTree) → ℕ → List ℕ → List FormTree
bounds_by said place [] = []
bounds_by said place (n ∷ ns) = said place n ∷ bounds_by said (suc place) ns

-- the first sizes, and behind the sizes the first numbers of true tuples, are at most these
abbrev pub bounds_on : Declared → List ℕ → List FormTree
bounds_on sig = bounds_by (bound_at sig) 0
