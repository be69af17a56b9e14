use Rattle.std.proofs.Common.{◌≡◌, ◌++◌, length}
use Rattle.cnf_base.specs.Writing.{literals_text, IsWritten}
use Rattle.cnf_base.proofs.writer.push_literals.Given as goal

abbrev pub invariant-loop-rest : goal.invariant-loop-rest
invariant-loop-rest l = record {
  text : l.out.items ++ literals_text l.rest ≡ l.fn.out.items ++ literals_text l.lits;
  written : IsWritten l.fn.out.items l.out.items (literals_text l.lits) (literals_text l.rest);
}

abbrev pub decreases-loop-rest : goal.decreases-loop-rest
decreases-loop-rest l = length l.rest
