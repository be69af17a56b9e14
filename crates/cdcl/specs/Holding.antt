-- What the analysis of a conflict needs of the clauses and the trail.
use Rattle.std.specs.Prelude.{ℕ, ◌^◌, ◌<◌, ◌≡◌, List, length, Some, All}
use Rattle.cnf_base.specs.declared.cnf.Entry.{Entry}
use Rattle.cnf_base.specs.declared.cnf.Entry.TheVariants.{Clause}
use Rattle.cnf_base.specs.Literals.{opposite}
use Rattle.cdcl.specs.Trail.{IsTrail}
use Rattle.lrat_log.specs.Held.{held_by}
use Rattle.cdcl.specs.TrailValue.{TrailValue}

-- The literals of each clause have values, and each literal of the trail is a decision or has its reason.
pub record IsHolding (clauses : List Entry) (t : TrailValue) : Type 0 where
  pub trail : IsTrail (held_by clauses) t.steps
  pub small : (id : ℕ) (c : List ℕ) → held_by clauses id ≡ Some (Clause c)
      → All (λ l. (l < t.size) × (opposite l < t.size)) c
  pub few : length clauses < 2 ^ 31
