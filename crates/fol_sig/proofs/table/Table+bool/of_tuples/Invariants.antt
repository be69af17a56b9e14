use Rattle.std.proofs.Common.{◌≡◌, [], take}
use Rattle.std.specs.Prelude.{reverse}
use Rattle.fol_sig.specs.Updates.{cells_from}
use Rattle.fol_sig.specs.TupleSets.{has_tuple}
use Rattle.fol_sig.proofs.table.«Table+bool».of_tuples.Given as goal

abbrev pub invariant-loop-tuple : goal.invariant-loop-tuple
invariant-loop-tuple l =
    (l.table.sorts ≡ l.sorts)
    × (l.table.cells ≡ cells_from l.sizes (λ tuple. has_tuple (take l.tuple-index l.tuples) (reverse tuple)) l.sorts [])
