-- The constants that indices stand for, as rules on indices.
use Rattle.std.specs.Prelude.{ℕ, ◌-◌, nat_lt, if◌then◌else◌, List, slice_index_or}
use Rattle.fol_formula.specs.Syntax.{bound}
use Rattle.fol_subst.specs.Rules.{Rules, of_indices}
use Rattle.skolem.specs.Constants.{Slot, binder, index_term}

-- an index that is bound outside is what it stands for, and one beyond the scope stays
abbrev pub naming : List Slot → Rules
naming scope =
    of_indices
    (λ depth i. if nat_lt i depth then bound i else index_term i (slice_index_or scope (i - depth) binder))
