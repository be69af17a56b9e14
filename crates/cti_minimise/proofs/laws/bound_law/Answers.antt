use Rattle.cti_minimise.proofs.ShortBounds.{named-bounds, short-bounds}
use Rattle.cti_minimise.proofs.BoundLaws.{tuples-bounded, named-laws}
use Rattle.cti_minimise.proofs.laws.bound_law.Goals as goal

pub returns-clause-named : goal.returns-clause-named
returns-clause-named c = named-bounds c.quantified.ensures.all c.quantified.ensures.any

pub returns-clause-short : goal.returns-clause-short
returns-clause-short c = short-bounds c.quantified.ensures.all c.quantified.ensures.any

pub returns-clause-tuples : goal.returns-clause-tuples
returns-clause-tuples c = tuples-bounded c.tuple_laws.ensures c.quantified.ensures.all c.quantified.ensures.any

pub returns-clause-bounds : goal.returns-clause-bounds
returns-clause-bounds c = λ sig.
    let all = c.quantified.ensures.all in
    let any = c.quantified.ensures.any in
    named-laws all any sig (tuples-bounded c.tuple_laws.ensures all any)
