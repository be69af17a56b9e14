use Rattle.std.proofs.Common.{refl, arith}
use Rattle.fol_formula.specs.Syntax.{for_all}
use Rattle.cti_minimise.specs.TupleBounds.{for_each}
use Rattle.cti_minimise.proofs.TupleTurns.{quantified-more}
use Rattle.cti_minimise.proofs.tuple_bounds.for_each.Goals as goal

pub loop-left-preserved : goal.loop-left-preserved
loop-left-preserved c =
    let le = c.loop-left.invariant.0 in
    let some = c.loop-left-test.true in (
      omega (arith, le),
      quantified-more for_each for_all (λ k ks p. refl) c.args.sorts.now c.loop-left.left (record { 0 = 0 }) _ _ _
          (omega (arith, some)) le c.loop-left.invariant.1 c.in_ok-formula.ensures,
    )
