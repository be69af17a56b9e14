use Rattle.rml_terms.proofs.Shapes.{terms_nest, expr_more, exprs_more}
use Rattle.rml_terms.proofs.laws.terms_nest.Goals as goal

pub returns-clause-terms : goal.returns-clause-terms
returns-clause-terms c = terms_nest

pub returns-clause-deeper : goal.returns-clause-deeper
returns-clause-deeper c = expr_more

pub returns-clause-deeper_all : goal.returns-clause-deeper_all
returns-clause-deeper_all c = exprs_more
