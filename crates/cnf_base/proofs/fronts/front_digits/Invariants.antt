use Rattle.std.proofs.Common.{◌≡◌, ◌+◌, ◌≤◌, length, drop}
use Rattle.cnf_base.specs.Modes.{word_of}
use Rattle.cnf_base.specs.Fronts.{word_len}
use Rattle.cnf_base.specs.Numerals.{with_digits}
use Rattle.cnf_base.proofs.fronts.front_digits.Given as goal

abbrev pub invariant-loop-rest : goal.invariant-loop-rest
invariant-loop-rest l = record {
  rest : l.rest ≡ drop l.count l.bytes;
  within : l.count + length l.rest ≡ length l.bytes;
  len : l.count + word_len l.rest ≡ word_len l.bytes;
  value : with_digits l.value (word_of l.rest) ≡ with_digits 0 (word_of l.bytes);
  small : l.value ≤ 2147483639;
}

abbrev pub decreases-loop-rest : goal.decreases-loop-rest
decreases-loop-rest l = length l.rest
