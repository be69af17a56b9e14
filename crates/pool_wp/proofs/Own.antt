-- The nodes that are a model's own are nodes of the whole pool.
use Rattle.std.proofs.Common.{ℕ, List, take, drop, sym}
use Rattle.std.proofs.lemmas.List.{take-append-drop}
use Rattle.fol_pool.specs.Trees.{Tree, Grows}
use Rattle.rml_command.specs.Models.{ModelTree}
use Rattle.pool_wp.specs.Standing.{AreNodesOf}
use Rattle.pool_wp.specs.Staying.{nodes_stay}
use Rattle.pool_wp.specs.declared.model_nodes.ModelNodes.{ModelNodes}

pub all_nodes : (m : ModelTree) (ts : List Tree) (own : ℕ) (nodes : ModelNodes) → AreNodesOf m (take own ts) nodes
    → AreNodesOf m ts nodes
all_nodes m ts own nodes h =
    let grows : Grows (take own ts) ts = (drop own ts, sym (take-append-drop own ts)) in
    nodes_stay (take own ts) ts grows m nodes h
