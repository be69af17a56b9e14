use Rattle.fol_sig.specs.Tables.{numbers}
use Rattle.fol_sig.proofs.Waiting.{Swept}
use Rattle.fol_sig.proofs.passes.place_free.Given as goal

abbrev pub invariant-loop-k : goal.invariant-loop-k
invariant-loop-k l =
    Swept l.waits l.fn.placed.items (numbers l.fn.order.items) l.placed.items (numbers l.order.items) l.any l.k
