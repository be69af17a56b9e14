use Rattle.rml_terms.proofs.Order.{terms_ascend}
use Rattle.rml_terms.proofs.laws.terms_ascend.Goals as goal

pub returns : goal.returns
returns c = terms_ascend
