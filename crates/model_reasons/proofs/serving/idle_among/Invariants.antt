use Rattle.std.proofs.Common.{◌≡◌, not, take}
use Rattle.std.specs.List.{filter, list_any}
use Rattle.model_reasons.specs.Idle.{serves}
use Rattle.model_reasons.proofs.serving.idle_among.Given as goal

abbrev pub invariant-loop-k : goal.invariant-loop-k
invariant-loop-k l = l.idle.items ≡ filter (λ k. not (list_any (serves k) l.reasons)) (take l.k-index l.numbers)
