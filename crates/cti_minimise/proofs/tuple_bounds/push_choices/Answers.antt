use Rattle.std.proofs.Common.{◌∙◌, arith}
use Rattle.cti_minimise.proofs.TupleTurns.{chosen-more}
use Rattle.cti_minimise.proofs.tuple_bounds.push_choices.Goals as goal

pub loop-left-preserved : goal.loop-left-preserved
loop-left-preserved c =
    let le = c.loop-left.invariant.0 in
    let some = c.loop-left-test.true in (
      omega (arith, le),
      chosen-more c.lists.ensures.forms _ _ _ c.args.arity c.loop-left.left (omega (arith, some))
          c.in_ok-push.ensures.items c.in_ok-same_tuple.ensures ∙ c.loop-left.invariant.1,
    )
