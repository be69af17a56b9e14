use Rattle.std.proofs.Common.{◌≡◌, length, map, ◌++◌}
use Rattle.cnf_base.specs.Literals.{AreLiterals}
use Rattle.renumbering.specs.Named.{named}
use Rattle.renumbering.proofs.back.clause_back.Given as goal

abbrev pub invariant-loop-rest : goal.invariant-loop-rest
invariant-loop-rest l = record {
  name : l.back.items ++ map (named l.names) l.rest ≡ map (named l.names) l.clause;
  range : AreLiterals (length l.names) l.rest;
}

abbrev pub decreases-loop-rest : goal.decreases-loop-rest
decreases-loop-rest l = length l.rest
