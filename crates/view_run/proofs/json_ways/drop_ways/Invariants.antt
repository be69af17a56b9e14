-- The values so far, and behind them those of the rest.
use Rattle.std.proofs.Common.{◌≡◌, ◌++◌, length}
use Rattle.view_run.specs.WayData.{drop_ways}
use Rattle.view_run.proofs.json_ways.drop_ways.Given as goal

abbrev pub invariant-loop-rest : goal.invariant-loop-rest
invariant-loop-rest l = l.list.items ++ drop_ways l.source l.rest ≡ drop_ways l.source l.drops

abbrev pub decreases-loop-rest : goal.decreases-loop-rest
decreases-loop-rest l = length l.rest
