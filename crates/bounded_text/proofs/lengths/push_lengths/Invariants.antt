use Rattle.std.proofs.Common.{◌≡◌, ◌+◌, ◌++◌, length}
use Rattle.std.specs.List.{AllByRecursion}
use Rattle.bounded_text.specs.BoundedText.{CanRender, lengths_text}
use Rattle.bounded_text.proofs.lengths.push_lengths.Given as goal

abbrev pub invariant-loop-rest : goal.invariant-loop-rest
invariant-loop-rest l = record {
  can : AllByRecursion (CanRender l.checked) l.rest;
  place : l.steps + length l.rest ≡ length l.lengths;
  text : l.out.items ++ lengths_text l.checked l.steps l.rest ≡ l.fn.out.items ++ lengths_text l.checked 0 l.lengths;
}

abbrev pub decreases-loop-rest : goal.decreases-loop-rest
decreases-loop-rest l = length l.rest
