use Rattle.equality_axioms.proofs.Elements.{IsMade}
use Rattle.equality_axioms.proofs.clauses.with_element.Given as goal

abbrev pub invariant-loop-i : goal.invariant-loop-i
invariant-loop-i l = IsMade l.tuple l.changed l.place l.element l.i
