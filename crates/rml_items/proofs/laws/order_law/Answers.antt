use Rattle.rml_items.proofs.Ordered.{demands_ascend, fault_is_least}
use Rattle.rml_items.proofs.laws.order_law.Goals as goal

pub returns-clause-demands : goal.returns-clause-demands
returns-clause-demands c = demands_ascend (record {
  bounds = c.ascending.ensures.bounds;
  earlier = c.ascending.ensures.earlier;
  parts = c.ascending.ensures.parts;
})

pub returns-clause-fault : goal.returns-clause-fault
returns-clause-fault c = fault_is_least (record {
  bounds = c.ascending.ensures.bounds;
  earlier = c.ascending.ensures.earlier;
  parts = c.ascending.ensures.parts;
})
