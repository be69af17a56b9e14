use Rattle.ground_terms.proofs.Valued.{structures_give_values}
use Rattle.ground_terms.proofs.values.value_laws.Goals as goal

pub returns : goal.returns
returns c = structures_give_values c.range_laws.ensures.values c.tuple_laws.ensures
