use Rattle.std.proofs.Common.{map, take}
use Rattle.fol_formula.specs.Syntax.{term_then}
use Rattle.fol_nnf.specs.Normal.{behind}
use Rattle.fol_pool.specs.Trees.{Grows, some_terms}
use Rattle.pool_nnf.specs.Leaves.{AreLeaves, term_leaf, terms_leaf}
use Rattle.pool_nnf.proofs.normals.Normals.each_before.Given as goal

abbrev pub invariant-loop-other : goal.invariant-loop-other
invariant-loop-other l = record {
  grows : Grows l.fn.self l.self;
  made : AreLeaves some_terms l.self l.all.items
      (map (behind term_then (term_leaf l.fn.self l.first)) (map (terms_leaf l.fn.self) (take l.other-index l.rest)));
}
