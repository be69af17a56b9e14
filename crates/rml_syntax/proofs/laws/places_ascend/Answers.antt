use Rattle.rml_syntax.proofs.Order.{tree_in_order}
use Rattle.rml_syntax.proofs.laws.places_ascend.Goals as goal

pub returns : goal.returns
returns c = tree_in_order c.terms_ascend.ensures
