use Rattle.std.proofs.Common.{List, subst, sym, ◌∙◌}
use Rattle.fol_formula.specs.Fragments.{IsIteFree}
use Rattle.fol_pool.specs.Trees.{Tree, term_at}
use Rattle.pool_nnf.proofs.Entries.{plain_found}
use Rattle.pool_nnf.proofs.normals.Normals.is_known_plain.Goals as goal

pub returns : goal.returns
returns c =
    let right = c.self.invariant in
    λ h. subst (λ (l : List Tree). IsIteFree (term_at l c.args.node.0)) c.self.view_is
    (plain_found c.self.inside.pool c.self.inside.plain.keys c.args.node right.1 (sym c.contains.ensures ∙ h))
