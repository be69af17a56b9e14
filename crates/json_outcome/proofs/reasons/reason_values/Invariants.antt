-- The values so far, and behind them those of the rest.
use Rattle.std.proofs.Common.{◌≡◌, ◌++◌, map, length, IfSome}
use Rattle.std.specs.List.{AllByRecursion}
use Rattle.model_reasons.specs.Laws.{CarriedIsShown}
use Rattle.json_outcome.specs.ReasonsData.{reason_data}
use Rattle.json_outcome.proofs.reasons.reason_values.Given as goal

abbrev pub invariant-loop-rest : goal.invariant-loop-rest
invariant-loop-rest l = record {
  shown : AllByRecursion (λ r. CarriedIsShown l.checked r.carried) l.rest;
  values : IfSome l.list (λ ds.
      ds ++ map (reason_data l.checked) l.rest ≡ map (reason_data l.checked) l.reasons);
}

abbrev pub decreases-loop-rest : goal.decreases-loop-rest
decreases-loop-rest l = length l.rest
