-- What is left to be pushed gives all pieces.
use Rattle.std.proofs.Common.{◌≡◌, ◌+◌, ◌-◌, ◌++◌}
use Rattle.rml_sample.specs.Sample.{pieces_text}
use Rattle.rml_sample.proofs.pushing.push_pieces.Given as goal

abbrev pub invariant-loop-i : goal.invariant-loop-i
invariant-loop-i l =
    l.out.items ++ pieces_text l.piece l.i (l.fn.from + l.fn.count - l.i) ≡ l.fn.out.items
    ++ pieces_text l.fn.piece l.fn.from l.fn.count
