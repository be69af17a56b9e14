use Rattle.std.proofs.Common.{List, ap, ◌∙◌}
use Rattle.fol_formula.specs.Syntax.{FormTree, conjunction, forms_of}
use Rattle.fol_pool.specs.Trees.{Tree, a_form, as_formulas}
use Rattle.fol_pool.specs.Growing.{grows_on}
use Rattle.fol_pool.specs.Rows.{forms_stay, lent_formulas, lent_forms}
use Rattle.pool_wp.proofs.model_nodes.take_all.Goals as goal

pub row_of-requires : goal.row_of-requires
row_of-requires c =
    lent_forms c.take_each.new.pool c.in_ok-nodes.nodes.items c.deref.result.now c.args.sentences.now
    c.in_ok-nodes.ensures.nodes c.deref.ensures.value

pub returns-clause-nodes : goal.returns-clause-nodes
returns-clause-nodes c =
    forms_stay c.take_each.new.pool c.add.new.self
    (grows_on c.take_each.new.pool c.row_of.new.self c.add.new.self c.row_of.ensures.grows c.add.ensures.grows)
    c.in_ok-nodes.nodes.items c.args.sentences.now c.in_ok-nodes.ensures.nodes

pub returns-clause-all : goal.returns-clause-all
returns-clause-all c = (
  c.in_ok-all.ensures.node.0,
  c.in_ok-all.ensures.node.1
      ∙ ap (λ (t : Tree). a_form (conjunction (as_formulas t))) c.in_ok-row.ensures.node.1
      ∙ ap (λ (ps : List FormTree). a_form (conjunction (forms_of ps)))
      (lent_formulas c.take_each.new.pool c.in_ok-nodes.nodes.items c.deref.result.now c.args.sentences.now
      c.in_ok-nodes.ensures.nodes c.deref.ensures.value),
)
