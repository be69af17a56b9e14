use Rattle.fol_sig.specs.Tuples.{join_below}
use Rattle.ground_terms.specs.Taking.{TakesAll, calls_of_each}
use Rattle.ground_terms.specs.Universe.{symbols_in, names_in}
use Rattle.equality_axioms.specs.declared.scheme.Scheme.TheVariants.{Relation}
use Rattle.equality_axioms.specs.Axioms.{scheme_axioms}
use Rattle.equality_axioms.proofs.handing.hand_relation.Given as goal

abbrev pub invariant-loop-place : goal.invariant-loop-place
invariant-loop-place g l =
    TakesAll (g.S.GroundSink.stands l.fn.sink) (g.S.GroundSink.stands l.sink)
    (calls_of_each
    (join_below l.place
    (λ i. scheme_axioms (symbols_in l.universe) (names_in l.universe) (Relation l.relation i))))
