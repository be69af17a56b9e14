use Rattle.base.proofs.Lists.{all_push}
use Rattle.fol_formula.specs.Syntax.{list_of}
use Rattle.fol_pool.specs.Trees.{HasTerm, terms_at}
use Rattle.pool_subst.proofs.Arguments.{terms_push}
use Rattle.pool_subst.proofs.replacement.row_nodes.Goals as goal

pub loop-first-preserved : goal.loop-first-preserved
loop-first-preserved c =
    let ts = c.args.pool.now in
    let w = c.in-TermThen in
    let nodes = c.loop-first.nodes.items in
    record {
      row = w.ensures.parts.1;
      stand = rw c.in_ok-push.ensures.items
          (all_push (λ n. HasTerm ts n.0) nodes w.first c.loop-first.invariant.stand w.ensures.parts.0);
      whole = rw c.in_ok-push.ensures.items
          (terms_push ts nodes w.first w.after c.loop-first.rest (list_of (terms_at ts c.args.row.0)) w.ensures.tree
          c.loop-first.invariant.whole);
    }
