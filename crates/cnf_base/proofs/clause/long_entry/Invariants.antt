use Rattle.std.proofs.Common.{◌≡◌, length, []}
use Rattle.cnf_base.specs.Clauses.{IsClause, entry_of}
use Rattle.cnf_base.proofs.clause.long_entry.Given as goal

abbrev pub invariant-loop-rest : goal.invariant-loop-rest
invariant-loop-rest l = record {
  clause : IsClause l.kept.keys;
  entry : entry_of l.kept.keys l.rest
      ≡ entry_of [] l.lits;
}

abbrev pub decreases-loop-rest : goal.decreases-loop-rest
decreases-loop-rest l = length l.rest
