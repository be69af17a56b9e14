use Rattle.std.proofs.Common.{◌∙◌, arith}
use Rattle.report_values.proofs.Turns.{values_turn}
use Rattle.report_values.proofs.cells.values_end.Goals as goal

pub loop-number-preserved : goal.loop-number-preserved
loop-number-preserved c =
    values_turn _ _ _ _ _ _ _ _ _ _ _ _
    (omega (arith, c.loop-number-test.true, c.in_ok-number-end.ensures.count))
    (c.as_slice.ensures.value ∙ c.tuple_of_number-tuple.ensures.value) c.mapped_at.ensures c.in-Some.is
    c.in_ok-push.ensures.pushed
    ∙ c.loop-number.invariant
