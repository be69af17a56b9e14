use Rattle.fol_sig.proofs.GrownSignatures.{signatures_grow, sorts_are_kept}
use Rattle.fol_sig.proofs.GrownStructures.{structures_extend, structures_reduce, structures_are_extensions}
use Rattle.fol_sig.proofs.laws.growth_laws.Goals as goal

pub returns : goal.returns
returns c = record {
  signatures = signatures_grow;
  sorts = sorts_are_kept;
  extend = structures_extend;
  reduce = structures_reduce;
  all = structures_are_extensions;
}
