use Rattle.std.proofs.Common.{List, subst, sym}
use Rattle.fol_formula.specs.Syntax.{TermTree}
use Rattle.fol_nnf.specs.Normal.{Leaf as LeafOf}
use Rattle.fol_pool.specs.Trees.{a_term, tree_at, term_at}
use Rattle.pool_nnf.specs.Leaves.{AreLeaves}
use Rattle.pool_nnf.proofs.Joining.{bare_leaves}
use Rattle.pool_nnf.proofs.normals.Normals.plain_leaves.Goals as goal

pub returns-clause-leaves : goal.returns-clause-leaves
returns-clause-leaves c =
    let ts = c.args.self.now in
    let n = c.args.at.0 in
    let items = c.in_ok-all.all.items in
    let term = c.requires.term in
    subst (λ (ms : List (LeafOf TermTree)). AreLeaves a_term c.bare.new.self items ms)
    (sym (c.plainness.ensures.terms (term_at ts n) c.requires.plain))
    (bare_leaves a_term c.bare.new.self items (tree_at ts n) (term_at ts n) term.1 c.in_ok-all.ensures.leaves)
