use Rattle.std.proofs.Common.{◌≡◌, ◌+◌, take, map, sum_by}
use Rattle.fol_sig.specs.Symbols.{symbols}
use Rattle.fol_formula.specs.Counts.{saturated}
use Rattle.ground_size.specs.Walks.{own_count}
use Rattle.ground_size.proofs.RowSums.{number}
use Rattle.ground_size.proofs.counting.terms_of.Given as goal

abbrev pub invariant-loop-function : goal.invariant-loop-function
invariant-loop-function l = l.terms
    ≡ saturated (l.constants + sum_by (own_count (symbols l.signature) l.counts)
    (map number (take l.function-index l.functions)))
