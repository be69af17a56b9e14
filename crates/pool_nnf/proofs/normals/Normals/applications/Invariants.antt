use Rattle.std.proofs.Common.{map, take}
use Rattle.fol_formula.specs.Syntax.{app}
use Rattle.fol_nnf.specs.Normal.{made}
use Rattle.fol_pool.specs.Trees.{Grows, a_term}
use Rattle.pool_nnf.specs.Leaves.{AreLeaves, terms_leaf}
use Rattle.pool_nnf.proofs.normals.Normals.applications.Given as goal

abbrev pub invariant-loop-args : goal.invariant-loop-args
invariant-loop-args l = record {
  grows : Grows l.fn.self l.self;
  made : AreLeaves a_term l.self l.all.items
      (map (made (app l.fun.0)) (map (terms_leaf l.fn.self) (take l.args-index l.leaves)));
}
