-- The ways to say bounds. Private contracts alone cite this.
use Rattle.std.specs.Prelude.{ℕ, ◌-◌, nat_lt, nat_le, ◌&&◌, if◌then◌else◌}
use Rattle.fol_sig.specs.Tables.{Declared}
use Rattle.fol_formula.specs.Syntax.{FormTree, top}
use Rattle.cti_minimise.specs.SizeBounds.{short_bound}
use Rattle.cti_minimise.specs.Bounding.{relation_bound, bound_at}
use Rattle.cti_minimise.specs.declared.bounds.Saying.{Saying}
use Rattle.cti_minimise.specs.declared.bounds.Saying.TheVariants.{Named, Short, Sparse}

-- a bound on a size in short; one on true tuples as ever
abbrev pub short_at : Declared → ℕ → ℕ → FormTree
short_at sig place n =
    if nat_lt place sig.sorts then short_bound place n else relation_bound sig (place - sig.sorts) n

-- of the relations in front of the last place nothing is said
abbrev pub sparse_at : Declared → ℕ → ℕ → ℕ → FormTree
sparse_at sig last place n = if nat_le sig.sorts place && nat_lt place last then top else short_at sig place n

-- the sentence that bounds the number at a place by n, said in this way; `last` is the place that is bounded last
abbrev pub said_by : Declared → Saying → ℕ → ℕ → ℕ → FormTree
said_by sig Named last = bound_at sig
said_by sig Short last = short_at sig
said_by sig Sparse last = sparse_at sig last
