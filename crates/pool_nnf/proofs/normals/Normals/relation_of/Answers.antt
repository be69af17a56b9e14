use Rattle.std.proofs.Common.{List, ap, refl, ◌∙◌}
use Rattle.fol_formula.specs.Syntax.{FormTree}
use Rattle.fol_nnf.specs.Normal.{Leaf as LeafOf, one_of}
use Rattle.fol_pool.specs.Trees.{a_form, as_formula}
use Rattle.pool_nnf.proofs.Joining.{lent_read, lent_are}
use Rattle.pool_nnf.proofs.normals.Normals.relation_of.Goals as goal

pub one_of-requires : goal.one_of-requires
one_of-requires c =
    lent_read a_form as_formula (λ p. refl) c.relations.new.self c.deref.result.now c.in_ok-literals.literals.items _
    c.deref.ensures.value c.in_ok-literals.ensures.leaves

pub returns-clause-node : goal.returns-clause-node
returns-clause-node c =
    let is = c.in_ok-node.ensures.node in
    let same =
    lent_are a_form as_formula (λ p. refl) c.relations.new.self c.deref.result.now c.in_ok-literals.literals.items _
    c.deref.ensures.value c.in_ok-literals.ensures.leaves in
    (is.0, is.1 ∙ ap (λ (ms : List (LeafOf FormTree)). a_form (one_of ms)) same)
