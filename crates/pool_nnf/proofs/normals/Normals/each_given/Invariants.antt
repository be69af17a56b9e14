use Rattle.std.proofs.Common.{map, take}
use Rattle.fol_nnf.specs.Normal.{given}
use Rattle.fol_pool.specs.Trees.{Grows, a_term, form_at}
use Rattle.pool_nnf.specs.Leaves.{AreLeaves, term_leaf}
use Rattle.pool_nnf.proofs.normals.Normals.each_given.Given as goal

abbrev pub invariant-loop-leaf : goal.invariant-loop-leaf
invariant-loop-leaf l = record {
  grows : Grows l.fn.self l.self;
  made : AreLeaves a_term l.self l.all.items
      (map (given (form_at l.fn.self l.condition.0)) (map (term_leaf l.fn.self) (take l.leaf-index l.leaves)));
}
