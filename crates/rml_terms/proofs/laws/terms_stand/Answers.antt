use Rattle.rml_terms.proofs.Within.{terms_stand}
use Rattle.rml_terms.proofs.laws.terms_stand.Goals as goal

pub returns : goal.returns
returns c = terms_stand
