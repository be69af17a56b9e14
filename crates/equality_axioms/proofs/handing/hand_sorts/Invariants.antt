use Rattle.fol_sig.specs.Tuples.{join_below}
use Rattle.ground_terms.specs.Taking.{TakesAll, calls_of_each}
use Rattle.ground_terms.specs.Universe.{symbols_in, names_in}
use Rattle.equality_axioms.specs.Axioms.{sort_axioms}
use Rattle.equality_axioms.proofs.handing.hand_sorts.Given as goal

abbrev pub invariant-loop-k : goal.invariant-loop-k
invariant-loop-k g l =
    TakesAll (g.S.GroundSink.stands l.fn.sink) (g.S.GroundSink.stands l.sink)
    (calls_of_each (join_below l.k (sort_axioms (symbols_in l.universe) (names_in l.universe))))
