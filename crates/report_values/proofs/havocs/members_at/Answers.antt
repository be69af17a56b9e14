use Rattle.std.proofs.Common.{◌∙◌, arith}
use Rattle.report_values.proofs.Turns.{members_turn}
use Rattle.report_values.proofs.havocs.members_at.Goals as goal

pub loop-number-preserved : goal.loop-number-preserved
loop-number-preserved c =
    members_turn _ _ _ _ _ _ _ _
    (omega (arith, c.loop-number-test.true, c.in_ok-number-end.ensures.count)) c.tuple_of_number-tuple.ensures.value
    c.in_ok-more.ensures
    ∙ c.loop-number.invariant
