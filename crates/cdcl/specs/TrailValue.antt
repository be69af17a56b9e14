-- What contracts see of a trail.
use Rattle.std.specs.Prelude.{ℕ, List}
use Rattle.cdcl.specs.declared.trail.Step.{Step}

-- the steps, and how many literals there are
pub record TrailValue : Type 0 where
  pub steps : List Step
  pub size : ℕ
