-- The values so far, and behind them those of the rest.
use Rattle.std.proofs.Common.{◌≡◌, ◌++◌, map, length, IfSome}
use Rattle.std.specs.List.{AllByRecursion}
use Rattle.model_reasons.specs.Laws.{LackIsShown}
use Rattle.json_outcome.specs.ReasonsData.{need_data}
use Rattle.json_outcome.proofs.reasons.need_values.Given as goal

abbrev pub invariant-loop-rest : goal.invariant-loop-rest
invariant-loop-rest l = record {
  shown : AllByRecursion (λ n. LackIsShown l.checked n.lack) l.rest;
  values : IfSome l.list (λ ds. ds ++ map (need_data l.checked) l.rest ≡ map (need_data l.checked) l.needs);
}

abbrev pub decreases-loop-rest : goal.decreases-loop-rest
decreases-loop-rest l = length l.rest
