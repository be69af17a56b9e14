use Rattle.std.proofs.Common.{◌≡◌, ◌≤◌, length}
use Rattle.cnf_base.specs.Numerals.{with_digits}
use Rattle.cnf_base.proofs.number.with_digits.Given as goal

abbrev pub invariant-loop-rest : goal.invariant-loop-rest
invariant-loop-rest l = record {
  small : l.value ≤ 2147483647;
  same : with_digits l.value l.rest
      ≡ with_digits 0 l.digits;
}

abbrev pub decreases-loop-rest : goal.decreases-loop-rest
decreases-loop-rest l = length l.rest
