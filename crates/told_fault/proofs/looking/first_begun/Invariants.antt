use Rattle.std.proofs.Common.{◌≡◌, length, map}
use Rattle.told_fault.specs.Hints.{first_begun}
use Rattle.told_fault.proofs.looking.first_begun.Given as goal

abbrev pub invariant-loop-rest : goal.invariant-loop-rest
invariant-loop-rest l = record {
  value : first_begun (map (λ row. (row.0.now, row.1)) l.rest) l.bytes
      ≡ first_begun (map (λ row. (row.0.now, row.1)) l.rows) l.bytes;
}

abbrev pub decreases-loop-rest : goal.decreases-loop-rest
decreases-loop-rest l = length l.rest
