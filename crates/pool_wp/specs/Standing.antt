-- The nodes of a model's sentences, and a row that is made of them.
use Rattle.std.specs.Prelude.{List}
use Rattle.fol_formula.specs.Syntax.{FormTree, FormTrees, form_then}
use Rattle.rml_command.specs.declared.goal.Stage.{Stage}
use Rattle.rml_command.specs.declared.goal.Stage.TheVariants as stage
use Rattle.fol_pool.specs.Trees.{Tree, IsAt, a_form}
use Rattle.fol_pool.specs.Rows.{AreForms}
use Rattle.rml_command.specs.Models.{ModelTree}
use Rattle.fol_formula.specs.Sentences.{all_of}
use Rattle.pool_wp.specs.declared.model_nodes.ModelNodes.{ModelNodes}

-- the nodes are those of all axioms together, of each of the model's conjectures, and of all conjectures together
pub record AreNodesOf (m : ModelTree) (ts : List Tree) (nodes : ModelNodes) : Type 0 where
  pub lawful : IsAt ts nodes.lawful.0 (a_form (all_of m.axioms))
  pub conjectures : AreForms ts nodes.conjectures.items m.conjectures
  pub held : IsAt ts nodes.held.0 (a_form (all_of m.conjectures))

-- a row with what holds before a stage in front: before init there is nothing. Private contracts alone cite this.
abbrev pub held_row : Stage → FormTree → FormTrees → FormTrees
held_row stage.Init held ps = ps
held_row (stage.Action a) held ps = form_then held ps
held_row stage.Final held ps = form_then held ps
