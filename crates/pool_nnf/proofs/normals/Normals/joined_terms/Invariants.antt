use Rattle.std.proofs.Common.{map, take}
use Rattle.fol_formula.specs.Syntax.{term_then}
use Rattle.fol_nnf.specs.Normal.{joined}
use Rattle.fol_pool.specs.Trees.{Grows, some_terms}
use Rattle.pool_nnf.specs.Leaves.{AreLeaves, term_leaf, terms_leaf}
use Rattle.pool_nnf.proofs.normals.Normals.joined_terms.Given as goal

abbrev pub invariant-loop-leaf : goal.invariant-loop-leaf
invariant-loop-leaf l = record {
  grows : Grows l.fn.self l.self;
  made : AreLeaves some_terms l.self l.all.items
      (joined term_then (map (term_leaf l.fn.self) (take l.leaf-index l.first)) (map (terms_leaf l.fn.self) l.rest));
}
