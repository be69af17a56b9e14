use Rattle.std.proofs.Common.{◌≡◌, ap, ◌∙◌}
use Rattle.fol_formula.specs.Syntax.{FormTree, FormTrees, conjunction, form_then, negation, no_forms}
use Rattle.fol_pool.specs.Trees.{a_form, as_formula, as_formulas, form_at, forms_at}
use Rattle.fol_pool.specs.Growing.{grows_on}
use Rattle.fol_formula.specs.Sentences.{all_of}
use Rattle.rml_wp.specs.Preconditions.{goal_precondition}
use Rattle.pool_wp.specs.Standing.{AreNodesOf, held_row}
use Rattle.pool_wp.specs.Staying.{nodes_stay}
use Rattle.pool_wp.proofs.Allowed.{allowed_row}
use Rattle.rml_wp.specs.declared.premises.Premises.TheVariants.{All}
use Rattle.pool_wp.proofs.refuted.refuting.Goals as goal

pub returns-clause-node : goal.returns-clause-node
returns-clause-node c =
    let m = c.args.checked.now in
    let stage = c.args.goal.now.stage in
    let p = goal_precondition All m c.args.goal.now in
    let nodes = c.args.nodes.now in
    let two = c.alone.new.pool in
    let three = c.with_held.new.pool in
    let grows = grows_on c.args.pool.now c.precondition.new.pool two c.precondition.ensures.grows
    c.alone.ensures.grows in
    let at_two : AreNodesOf m two nodes = nodes_stay c.args.pool.now two grows m nodes c.requires.nodes in
    let at_three : AreNodesOf m three nodes = nodes_stay two three c.with_held.ensures.grows m nodes at_two in
    let lawful : form_at three nodes.lawful.0 ≡ all_of m.axioms = ap as_formula at_three.lawful.1 in
    let held : form_at two nodes.held.0 ≡ all_of m.conjectures = ap as_formula at_two.held.1 in
    let refuted : forms_at two c.in_ok-refuted.refuted.0 ≡ form_then (negation p) no_forms =
    ap as_formulas c.in_ok-refuted.ensures.node.1
    ∙ ap (λ (q : FormTree). form_then (negation q) no_forms) (ap as_formula c.in_ok-answered.ensures.node.1) in
    let row : forms_at three c.in_ok-allowed.allowed.0
    ≡ held_row stage (all_of m.conjectures) (form_then (negation p) no_forms) =
    ap as_formulas c.in_ok-allowed.ensures.node.1 ∙ (λ i. held_row stage (held i) (refuted i)) in (
      c.in_ok-sentence.ensures.node.0,
      c.in_ok-sentence.ensures.node.1
          ∙ (λ i. a_form (conjunction (form_then (lawful i) (row i))))
          ∙ ap (λ (ps : FormTrees). a_form (conjunction ps)) (allowed_row m stage p),
    )
