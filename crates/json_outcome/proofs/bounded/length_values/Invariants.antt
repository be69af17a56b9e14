use Rattle.std.proofs.Common.{◌≡◌, ◌+◌, ◌++◌, length, IfSome}
use Rattle.std.specs.List.{AllByRecursion}
use Rattle.bounded_text.specs.BoundedText.{CanRender}
use Rattle.json_outcome.specs.BoundedData.{lengths_data}
use Rattle.json_outcome.proofs.bounded.length_values.Given as goal

abbrev pub invariant-loop-rest : goal.invariant-loop-rest
invariant-loop-rest l = record {
  can : AllByRecursion (CanRender l.checked) l.rest;
  place : l.steps + length l.rest ≡ length l.lengths;
  told : IfSome l.list (λ ds. ds ++ lengths_data l.checked l.steps l.rest ≡ lengths_data l.checked 0 l.lengths);
}

abbrev pub decreases-loop-rest : goal.decreases-loop-rest
decreases-loop-rest l = length l.rest
