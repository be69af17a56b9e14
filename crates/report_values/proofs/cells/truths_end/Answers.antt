use Rattle.std.proofs.Common.{◌∙◌, arith}
use Rattle.report_values.proofs.Turns.{truths_turn}
use Rattle.report_values.proofs.cells.truths_end.Goals as goal

pub loop-number-preserved : goal.loop-number-preserved
loop-number-preserved c =
    truths_turn _ _ _ _ _ _ _ c.take_tuple-truth.result _
    (omega (arith, c.loop-number-test.true, c.in_ok-number-end.ensures.count))
    (c.as_slice.ensures.value ∙ c.tuple_of_number-tuple.ensures.value) c.take_tuple-truth.ensures
    c.in_ok-push.ensures.pushed
    ∙ c.loop-number.invariant
