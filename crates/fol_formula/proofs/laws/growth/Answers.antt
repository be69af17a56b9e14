use Rattle.fol_formula.proofs.Alike.{truth_reads_its_own}
use Rattle.fol_formula.proofs.Growing.{fitting_is_kept}
use Rattle.fol_formula.proofs.laws.growth.Goals as goal

pub returns-clause-fitting : goal.returns-clause-fitting
returns-clause-fitting c = fitting_is_kept

pub returns-clause-truth : goal.returns-clause-truth
returns-clause-truth c = truth_reads_its_own
