use Rattle.std.proofs.Common.{◌≡◌, List, sym, ap, ◌∙◌, subst, reverse}
use Rattle.fol_subst.specs.Replace.{putting}
use Rattle.fol_formula.specs.Syntax.{TermTree}
use Rattle.fol_pool.specs.Trees.{IsAt, tree_at}
use Rattle.pool_subst.specs.Nodes.{HaveTerms, terms_of}
use Rattle.pool_subst.specs.Walks.{tree_by}
use Rattle.pool_subst.proofs.Arguments.{have_reverse, terms_reverse}
use Rattle.pool_subst.proofs.replacement.instance.Goals as goal

pub changed-requires-clause-stands : goal.changed-requires-clause-stands
changed-requires-clause-stands c =
    let ts = c.args.pool.now in
    let nodes = c.in_ok-nodes.nodes.items in
    let listed : c.deref.result.now ≡ reverse nodes = c.deref.ensures.value ∙ c.reverse.ensures.items in
    subst (HaveTerms ts) (sym listed) (have_reverse ts nodes c.in_ok-nodes.ensures.stand)

pub returns-clause-node : goal.returns-clause-node
returns-clause-node c =
    let ts = c.args.pool.now in
    let nodes = c.in_ok-nodes.nodes.items in
    let listed : c.deref.result.now ≡ reverse nodes = c.deref.ensures.value ∙ c.reverse.ensures.items in
    let terms = ap (terms_of ts) listed ∙ terms_reverse ts nodes ∙ ap reverse c.in_ok-nodes.ensures.terms in
    subst
    (λ (args : List TermTree). IsAt c.changed.new.pool c.in_ok-node.node.0
    (tree_by (putting args) 0 (tree_at ts c.args.body.0))) terms c.in_ok-node.ensures.node
