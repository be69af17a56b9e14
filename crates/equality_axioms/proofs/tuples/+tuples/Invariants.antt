use Rattle.std.proofs.Common.{◌+◌, ◌*◌, ◌∷◌, ◌++◌, length}
use Rattle.fol_sig.specs.Tables.{numbers}
use Rattle.fol_sig.specs.Tuples.{join_below}
use Rattle.ground_terms.specs.Terms.{term_counts}
use Rattle.ground_terms.specs.Taking.{TakesAll, calls_of_each}
use Rattle.ground_terms.specs.Universe.{symbols_in, names_in}
use Rattle.equality_axioms.specs.Axioms.{axioms_at, join_tuples}
use Rattle.equality_axioms.proofs.tuples.+tuples.Given as goal

abbrev pub invariant-hand_longer-loop-term : goal.invariant-hand_longer-loop-term
invariant-hand_longer-loop-term g l =
    TakesAll (g.S.GroundSink.stands l.fn.sink) (g.S.GroundSink.stands l.sink)
    (calls_of_each
    (join_below l.term (λ x. join_tuples (term_counts l.universe.terms.now) (numbers l.rest)
    (λ xs. axioms_at (symbols_in l.universe) (names_in l.universe) l.scheme
    (l.tuple ++ (x ∷ xs))))))

abbrev pub decreases-hand_tuples : goal.decreases-hand_tuples
decreases-hand_tuples g l = 2 * length l.sorts.now

abbrev pub decreases-hand_longer : goal.decreases-hand_longer
decreases-hand_longer g l = 2 * length l.rest.now + 1
