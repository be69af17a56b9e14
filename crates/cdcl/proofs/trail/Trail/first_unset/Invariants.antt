use Rattle.std.proofs.Common.{◌≡◌, ◌<◌, ◌+◌, ◌*◌, ◌⊎◌, ℕ, true}
use Rattle.cdcl.specs.Trail.{is_set}
use Rattle.cdcl.proofs.trail.Trail.first_unset.Given as goal

abbrev pub invariant-loop-variable : goal.invariant-loop-variable
invariant-loop-variable l = (v : ℕ) → 0 < v → v < l.variable → 2 * v + 1 < l.self.size
    → (is_set l.self.steps (2 * v) ≡ true) ⊎ (is_set l.self.steps (2 * v + 1) ≡ true)
