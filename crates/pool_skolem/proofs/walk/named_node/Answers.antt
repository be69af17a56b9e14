use Rattle.std.proofs.Common.{ap, ◌∙◌}
use Rattle.fol_pool.specs.Trees.{a_form, form_at}
use Rattle.pool_subst.specs.Walks.{tree_by}
use Rattle.pool_skolem.specs.Named.{slots}
use Rattle.pool_skolem.specs.Naming.{naming}
use Rattle.pool_skolem.proofs.Indices.{named_by}
use Rattle.pool_skolem.proofs.walk.named_node.Goals as goal

pub returns-clause-node : goal.returns-clause-node
returns-clause-node c =
    let scope = slots c.args.scope.now in
    let made = c.in_ok-node.ensures.node in (
      made.0,
      made.1 ∙ ap (tree_by (naming scope) 0) c.requires.there.1
          ∙ ap a_form (named_by scope (form_at c.args.pool.now c.args.at.0)),
    )
