-- A pool of which the first nodes are those of a model's sentences.
use Rattle.std.specs.Prelude.{◌≤◌, length, take}
use Rattle.rml_command.specs.Models.{ModelTree}
use Rattle.pool_wp.specs.Standing.{AreNodesOf}
use Rattle.pool_wp.specs.declared.model_pool.ModelPool.{ModelPool}

-- the model's sentences stand at the first nodes, so many as are its own
pub record IsPoolOf (m : ModelTree) (shared : ModelPool) : Type 0 where
  pub own : shared.own ≤ length shared.pool
  pub nodes : AreNodesOf m (take shared.own shared.pool) shared.nodes
