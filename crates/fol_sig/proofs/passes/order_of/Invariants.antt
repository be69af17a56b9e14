use Rattle.fol_sig.specs.Tables.{numbers}
use Rattle.fol_sig.specs.Symbols.{symbols}
use Rattle.fol_sig.specs.Strata.{with_functions}
use Rattle.fol_sig.specs.Passes.{IsSoFar, left_over}
use Rattle.fol_sig.proofs.passes.order_of.Given as goal

abbrev pub invariant-loop-order : goal.invariant-loop-order
invariant-loop-order l =
    IsSoFar (with_functions (symbols l.signature) l.functions) l.placed.items (numbers l.order.items)

abbrev pub decreases-loop-order : goal.decreases-loop-order
decreases-loop-order l = left_over l.placed.items
