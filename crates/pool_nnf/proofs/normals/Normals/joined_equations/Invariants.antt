use Rattle.std.proofs.Common.{map, take}
use Rattle.fol_nnf.specs.Normal.{joined, equal_literal}
use Rattle.fol_pool.specs.Trees.{Grows, a_form}
use Rattle.pool_nnf.specs.Leaves.{AreLeaves, term_leaf}
use Rattle.pool_nnf.proofs.normals.Normals.joined_equations.Given as goal

abbrev pub invariant-loop-leaf : goal.invariant-loop-leaf
invariant-loop-leaf l = record {
  grows : Grows l.fn.self l.self;
  made : AreLeaves a_form l.self l.all.items
      (joined (equal_literal l.positive) (map (term_leaf l.fn.self) (take l.leaf-index l.first))
      (map (term_leaf l.fn.self) l.second));
}
