-- A law: a model's nodes stay its nodes as the pool grows.
use Rattle.std.specs.Prelude.{List}
use Rattle.fol_pool.specs.Trees.{Tree, Grows, a_form}
use Rattle.fol_pool.specs.Growing.{stays_at}
use Rattle.fol_pool.specs.Rows.{forms_stay}
use Rattle.rml_command.specs.Models.{ModelTree}
use Rattle.fol_formula.specs.Sentences.{all_of}
use Rattle.pool_wp.specs.declared.model_nodes.ModelNodes.{ModelNodes}
use Rattle.pool_wp.specs.Standing.{AreNodesOf}

-- from one pool to a later one
pub nodes_stay : (old new : List Tree) (grows : Grows old new) (m : ModelTree) (nodes : ModelNodes)
    → AreNodesOf m old nodes → AreNodesOf m new nodes
nodes_stay old new grows m nodes h = record {
  lawful = stays_at old new grows nodes.lawful.0 (a_form (all_of m.axioms)) h.lawful;
  conjectures = forms_stay old new grows nodes.conjectures.items m.conjectures h.conjectures;
  held = stays_at old new grows nodes.held.0 (a_form (all_of m.conjectures)) h.held;
}
