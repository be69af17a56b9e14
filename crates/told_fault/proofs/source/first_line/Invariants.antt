use Rattle.std.proofs.Common.{◌≡◌, ◌++◌, take, drop, length}
use Rattle.told_fault.specs.Diagnostics.{up_to_end}
use Rattle.told_fault.proofs.source.first_line.Given as goal

-- what was passed has no line feed, and what is left goes on behind it
abbrev pub invariant-loop-rest : goal.invariant-loop-rest
invariant-loop-rest l = record {
  rest : l.rest ≡ drop l.count l.text;
  front : take l.count l.text ++ up_to_end l.rest ≡ up_to_end l.text;
}

abbrev pub decreases-loop-rest : goal.decreases-loop-rest
decreases-loop-rest l = length l.rest
