use Rattle.fol_formula.proofs.Closed.{fits_is_bound, fits_is_bound_term, truth_reads_no_more, value_reads_no_more}
use Rattle.fol_formula.proofs.Closed.{fits_under_more, fits_under_more_term}
use Rattle.fol_formula.proofs.laws.indices.Goals as goal

pub returns-clause-bound : goal.returns-clause-bound
returns-clause-bound c = fits_is_bound

pub returns-clause-bound_terms : goal.returns-clause-bound_terms
returns-clause-bound_terms c = fits_is_bound_term

pub returns-clause-truth : goal.returns-clause-truth
returns-clause-truth c = truth_reads_no_more

pub returns-clause-values : goal.returns-clause-values
returns-clause-values c = value_reads_no_more

pub returns-clause-fits : goal.returns-clause-fits
returns-clause-fits c = fits_under_more

pub returns-clause-fits_terms : goal.returns-clause-fits_terms
returns-clause-fits_terms c = fits_under_more_term
