-- The values so far, and behind them those of the rest.
use Rattle.std.proofs.Common.{◌≡◌, ◌++◌, map, length}
use Rattle.std.specs.Prelude.{IfSome}
use Rattle.branches.specs.Within.{MarksWithin}
use Rattle.view_run.specs.WayData.{mark_data}
use Rattle.view_run.proofs.json_ways.marks_value.Given as goal

abbrev pub invariant-loop-rest : goal.invariant-loop-rest
invariant-loop-rest l = record {
  within : MarksWithin (length l.text) l.rest;
  list : IfSome l.list (λ ds. ds ++ map (mark_data l.text) l.rest ≡ map (mark_data l.text) l.marks);
}

abbrev pub decreases-loop-rest : goal.decreases-loop-rest
decreases-loop-rest l = length l.rest
