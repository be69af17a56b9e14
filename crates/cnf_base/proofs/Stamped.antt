-- One more literal in the table of a set.
use Rattle.std.proofs.Common.{◌≡◌, ℕ, ◌||◌, eqb, List, get_or, arith}
use Rattle.std.proofs.lemmas.Grind.{common_steps}
use Rattle.cnf_base.specs.Literals.{member}
use Rattle.cnf_base.specs.Clauses.{with_literal}
use Rattle.cnf_base.proofs.Entries.{member-with}

pub kept_far : (stamps far news : List ℕ) (epoch l : ℕ) → news ≡ with_literal far l → (x : ℕ)
    → (eqb (get_or stamps x 0) epoch || member x news) ≡ (eqb x l || (eqb (get_or stamps x 0) epoch || member x far))
kept_far stamps far news epoch l e x = let m = member-with x far l in rw e (grind (arith, common_steps, m))
