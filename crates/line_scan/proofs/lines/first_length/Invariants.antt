use Rattle.std.proofs.Common.{◌≡◌, ◌+◌, length}
use Rattle.line_scan.specs.Lines.{first_length_of}
use Rattle.line_scan.proofs.lines.first_length.Given as goal

abbrev pub invariant-loop-rest : goal.invariant-loop-rest
invariant-loop-rest l = record {
  value : l.count + first_length_of l.rest ≡ first_length_of l.text;
  within : l.count + length l.rest ≡ length l.text;
}

abbrev pub decreases-loop-rest : goal.decreases-loop-rest
decreases-loop-rest l = length l.rest
