use Rattle.cti_minimise.proofs.BoundLaws.{tuples-bounded, named-laws, short-laws, said-laws}
use Rattle.cti_minimise.proofs.laws.saying_law.Goals as goal

pub returns : goal.returns
returns c = λ sig saying last.
    let all = c.quantified.ensures.all in
    let any = c.quantified.ensures.any in
    let tuples = tuples-bounded c.tuple_laws.ensures all any in
    said-laws sig (named-laws all any sig tuples) (short-laws all any sig tuples) saying last
