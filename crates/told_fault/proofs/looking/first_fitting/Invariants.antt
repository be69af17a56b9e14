use Rattle.std.proofs.Common.{◌≡◌, length, map}
use Rattle.told_fault.specs.Hints.{first_fitting}
use Rattle.told_fault.proofs.looking.first_fitting.Given as goal

abbrev pub invariant-loop-rest : goal.invariant-loop-rest
invariant-loop-rest l = record {
  value : first_fitting (map (λ row. (row.0.now, row.1.now, row.2.now, row.3)) l.rest)
      (record { earlier = l.it.earlier.now; before = l.it.before.now; here = l.it.here.now; begins = l.it.begins })
      ≡ first_fitting (map (λ row. (row.0.now, row.1.now, row.2.now, row.3)) l.rows)
      (record { earlier = l.it.earlier.now; before = l.it.before.now; here = l.it.here.now; begins = l.it.begins });
}

abbrev pub decreases-loop-rest : goal.decreases-loop-rest
decreases-loop-rest l = length l.rest
