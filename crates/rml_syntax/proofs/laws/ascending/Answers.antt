use Rattle.rml_phrases.proofs.Ascending.{in_order, earlier, cut}
use Rattle.rml_syntax.proofs.laws.ascending.Goals as goal

pub returns-clause-bounds : goal.returns-clause-bounds
returns-clause-bounds c = in_order

pub returns-clause-earlier : goal.returns-clause-earlier
returns-clause-earlier c = earlier

pub returns-clause-parts : goal.returns-clause-parts
returns-clause-parts c = cut
