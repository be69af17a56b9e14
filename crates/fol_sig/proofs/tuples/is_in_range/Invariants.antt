use Rattle.std.proofs.Common.{◌≡◌, drop}
use Rattle.fol_sig.specs.Tables.{numbers}
use Rattle.fol_sig.specs.TupleSets.{is_in_range}
use Rattle.fol_sig.proofs.tuples.is_in_range.Given as goal

abbrev pub invariant-loop-i : goal.invariant-loop-i
invariant-loop-i l =
    is_in_range l.sizes (numbers (drop l.i l.sorts)) (drop l.i l.tuple) ≡ is_in_range l.sizes (numbers l.sorts) l.tuple
