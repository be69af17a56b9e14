use Rattle.std.proofs.Common.{◌≡◌, length}
use Rattle.fol_sig.specs.Tables.{numbers}
use Rattle.fol_sig.specs.TupleSets.{are_in_range}
use Rattle.fol_sig.proofs.tuples.are_in_range.Given as goal

abbrev pub invariant-loop-rest : goal.invariant-loop-rest
invariant-loop-rest l = are_in_range l.sizes (numbers l.sorts) l.rest ≡ are_in_range l.sizes (numbers l.sorts) l.tuples

abbrev pub decreases-loop-rest : goal.decreases-loop-rest
decreases-loop-rest l = length l.rest
