use Rattle.std.proofs.Common.{◌≡◌, ◌++◌}
use Rattle.fol_formula.specs.Syntax.{list_of}
use Rattle.fol_pool.specs.Trees.{HasTerms, terms_at}
use Rattle.pool_subst.specs.Nodes.{HaveTerms, terms_of}
use Rattle.pool_subst.proofs.replacement.row_nodes.Given as goal

abbrev pub invariant-loop-first : goal.invariant-loop-first
invariant-loop-first l = record {
  row : HasTerms l.pool l.rest.0;
  stand : HaveTerms l.pool l.nodes.items;
  whole : terms_of l.pool l.nodes.items ++ list_of (terms_at l.pool l.rest.0) ≡ list_of (terms_at l.pool l.fn.row.0);
}

abbrev pub decreases-loop-first : goal.decreases-loop-first
decreases-loop-first l = l.rest.0
