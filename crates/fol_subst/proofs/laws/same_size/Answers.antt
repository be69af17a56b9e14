use Rattle.fol_subst.specs.Replace.{change_const}
use Rattle.fol_subst.proofs.Ready.{fits_ready}
use Rattle.fol_subst.proofs.Sizes.{size-shifted, size-index}
use Rattle.fol_subst.proofs.laws.same_size.Goals as goal

pub returns : goal.returns
returns c = record {
  shift = λ within from by. let same = size-shifted within from by in record { nodes = same.nodes; depth = same.depth };
  index = λ sig sorts within v index h can.
      let same = size-index v index within
      (fits_ready c.indices.ensures.bound c.indices.ensures.bound_terms sig sorts (change_const v index) can within
      sorts h) in
      record { nodes = same.nodes; depth = same.depth };
}
