use Rattle.std.proofs.Common.{List, subst, ◌∙◌}
use Rattle.std.specs.Prelude.{IfSome}
use Rattle.fol_pool.specs.Trees.{Tree, IsAt, tree_at}
use Rattle.pool_nnf.specs.Normals.{normal_tree}
use Rattle.pool_nnf.specs.declared.signed.Signed.{Signed}
use Rattle.pool_nnf.proofs.Entries.{is_found}
use Rattle.pool_nnf.proofs.normals.Normals.known.Goals as goal

pub returns : goal.returns
returns c =
    let right = c.self.invariant in
    let s : Signed = record { node = c.args.node; positive = c.args.positive } in
    subst
    (λ (l : List Tree). IfSome c.copied.result (λ node. IsAt l node.0 (normal_tree s.positive (tree_at l s.node.0))))
    c.self.view_is
    (is_found c.self.inside.pool c.self.inside.made.entries s c.copied.result right.0
    (c.copied.ensures ∙ c.get.ensures.value))
