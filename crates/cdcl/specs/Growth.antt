-- A trail that grows by what its clauses force.
use Rattle.std.specs.Prelude.{ℕ, ◌+◌, ◌<◌, ◌≤◌, ◌≡◌, ◌≢◌, length, get_or}
use Rattle.cdcl.specs.Trail.{no_step, reason_at, is_set, free}
use Rattle.cdcl.specs.TrailValue.{TrailValue}

-- the old steps stand, each new one has a reason, and each takes one of the free literals
pub record Extends (old new : TrailValue) : Type 0 where
  pub size : new.size ≡ old.size
  pub longer : length old.steps ≤ length new.steps
  pub same : (i : ℕ) → i < length old.steps → get_or new.steps i no_step ≡ get_or old.steps i no_step
  pub forced : (i : ℕ) → length old.steps ≤ i → i < length new.steps → reason_at new.steps i ≢ 0
  pub fewer : free (is_set new.steps) new.size + length new.steps ≡ free (is_set old.steps) old.size + length old.steps
