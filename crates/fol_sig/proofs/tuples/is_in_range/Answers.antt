use Rattle.std.proofs.Common.{sym, arith, true, false}
use Rattle.std.proofs.lemmas.Grind.{common_steps}
use Rattle.std.proofs.lemmas.List.{length-map}
use Rattle.fol_sig.specs.declared.Sort.{Sort}
use Rattle.fol_sig.specs.Tables.{numbers}
use Rattle.fol_sig.proofs.TupleTurns.{known_sort}
use Rattle.fol_sig.proofs.TupleSets.{range-long, is_in_range_decides}
use Rattle.fol_sig.proofs.tuples.is_in_range.Goals as goal

pub returns-then-sorts-tuple-clause-value : goal.returns-then-sorts-tuple-clause-value
returns-then-sorts-tuple-clause-value c =
    sym (range-long c.args.sizes.now (numbers c.args.sorts.now) c.args.tuple.now
    (λ e. omega (arith, c.if-sorts-tuple.true, e, length-map c.args.sorts.now (λ (k : Sort). k.0))))

pub returns-then-sorts-tuple-clause-decides : goal.returns-then-sorts-tuple-clause-decides
returns-then-sorts-tuple-clause-decides c =
    is_in_range_decides c.args.sizes.now (numbers c.args.sorts.now) c.args.tuple.now false
    (returns-then-sorts-tuple-clause-value c)

pub returns-then-tuple-i-clause-decides : goal.returns-then-tuple-i-clause-decides
returns-then-tuple-i-clause-decides c =
    is_in_range_decides c.args.sizes.now (numbers c.args.sorts.now) c.args.tuple.now false (grind (arith, common_steps))

pub returns-clause-decides : goal.returns-clause-decides
returns-clause-decides c =
    is_in_range_decides c.args.sizes.now (numbers c.args.sorts.now) c.args.tuple.now true (grind (arith, common_steps))

pub bounds-sizes-sorts : goal.bounds-sizes-sorts
bounds-sizes-sorts c =
    known_sort c.args.sizes.now c.args.sorts.now c.loop-i.i record { 0 = 0 } c.requires
    (omega (arith, c.loop-i-test.true))
