use Rattle.std.proofs.Common.{◌≡◌, length}
use Rattle.rml_syntax.specs.Faults.{format_of_digits}
use Rattle.rml_syntax.proofs.parser.format_of_digits.Given as goal

abbrev pub invariant-loop-rest : goal.invariant-loop-rest
invariant-loop-rest l = record {
  value : format_of_digits l.rest ≡ format_of_digits l.digits;
}

abbrev pub decreases-loop-rest : goal.decreases-loop-rest
decreases-loop-rest l = length l.rest
