use Rattle.std.proofs.Common.{◌≡◌, length}
use Rattle.cnf_base.specs.Literals.{member}
use Rattle.cnf_base.proofs.clause.has.Given as goal

abbrev pub invariant-loop-rest : goal.invariant-loop-rest
invariant-loop-rest l = member l.lit l.rest ≡ member l.lit l.lits

abbrev pub decreases-loop-rest : goal.decreases-loop-rest
decreases-loop-rest l = length l.rest
