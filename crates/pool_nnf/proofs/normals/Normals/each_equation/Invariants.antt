use Rattle.std.proofs.Common.{map, take}
use Rattle.fol_nnf.specs.Normal.{behind, equal_literal}
use Rattle.fol_pool.specs.Trees.{Grows, a_form}
use Rattle.pool_nnf.specs.Leaves.{AreLeaves, term_leaf}
use Rattle.pool_nnf.proofs.normals.Normals.each_equation.Given as goal

abbrev pub invariant-loop-b : goal.invariant-loop-b
invariant-loop-b l = record {
  grows : Grows l.fn.self l.self;
  made : AreLeaves a_form l.self l.all.items
      (map (behind (equal_literal l.positive) (term_leaf l.fn.self l.a))
      (map (term_leaf l.fn.self) (take l.b-index l.others)));
}
