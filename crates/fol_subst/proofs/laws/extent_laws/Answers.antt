use Rattle.fol_subst.proofs.Templates.{extents_are_counts, extents_are_filled}
use Rattle.fol_subst.proofs.laws.extent_laws.Goals as goal

pub returns-clause-filled : goal.returns-clause-filled
returns-clause-filled c = extents_are_filled

pub returns-clause-counts : goal.returns-clause-counts
returns-clause-counts c = extents_are_counts
