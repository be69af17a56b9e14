use Rattle.std.proofs.Common.{◌≡◌, ◌⊎◌, ◌≤◌, ◌<◌, ◌^◌, ℕ, true, length}
use Rattle.cnf_base.specs.Literals.{member, variable_of}
use Rattle.cdcl_tables.specs.Extent.{StandsIn}
use Rattle.cdcl_tables.proofs.extent.greatest_of.Given as goal

abbrev pub invariant-loop-rest : goal.invariant-loop-rest
invariant-loop-rest l = record {
  least : l.least ≤ l.greatest;
  range : l.greatest < 2 ^ 31;
  goes_on : (n : ℕ) → l.greatest ≤ n → ((x : ℕ) → member x l.rest ≡ true → variable_of x ≤ n) → (x : ℕ)
      → member x l.clause ≡ true → variable_of x ≤ n;
  among : (x : ℕ) → member x l.rest ≡ true → member x l.clause ≡ true;
  stands : (l.greatest ≡ l.least) ⊎ StandsIn l.greatest l.clause;
}

abbrev pub decreases-loop-rest : goal.decreases-loop-rest
decreases-loop-rest l = length l.rest
