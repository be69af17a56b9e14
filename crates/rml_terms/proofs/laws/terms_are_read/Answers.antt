use Rattle.rml_terms.proofs.Grammar.{are_read}
use Rattle.rml_terms.proofs.laws.terms_are_read.Goals as goal

pub returns : goal.returns
returns c = are_read
