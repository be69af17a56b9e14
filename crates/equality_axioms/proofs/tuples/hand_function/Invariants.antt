use Rattle.std.proofs.Common.{◌∷◌, [], get_or, set}
use Rattle.fol_sig.specs.Tuples.{join_below}
use Rattle.ground_terms.specs.declared.atom.Atom.TheVariants.{Eq}
use Rattle.ground_terms.specs.Taking.{TakesAll, calls_of_each}
use Rattle.ground_terms.specs.Universe.{symbols_in, names_in}
use Rattle.equality_axioms.specs.Axioms.{clause, equation}
use Rattle.equality_axioms.proofs.tuples.hand_function.Given as goal

abbrev pub invariant-loop-term : goal.invariant-loop-term
invariant-loop-term g l =
    TakesAll (g.S.GroundSink.stands l.fn.sink) (g.S.GroundSink.stands l.sink)
    (calls_of_each
    (join_below l.term (λ y. clause (Eq l.sort (get_or l.tuple l.place 0) y ∷ [])
    (equation ((symbols_in l.universe).into_of l.function.0)
    ((names_in l.universe).place l.function.0 l.tuple)
    ((names_in l.universe).place l.function.0 (set l.tuple l.place y))) ∷ [])))
