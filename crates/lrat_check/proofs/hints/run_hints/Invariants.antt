use Rattle.std.proofs.Common.{◌≡◌, drop}
use Rattle.cnf_base.specs.LitSetValue.{set_of}
use Rattle.lrat_log.specs.Accepted.{outcome_of_hints}
use Rattle.lrat_check.specs.Spans.{held_in}
use Rattle.lrat_check.proofs.hints.run_hints.Given as goal

abbrev pub invariant-loop-hint : goal.invariant-loop-hint
invariant-loop-hint l =
    outcome_of_hints (held_in l.literals l.spans) l.hints (set_of l.initial.set)
    ≡ outcome_of_hints (held_in l.literals l.spans) (drop l.hint-index l.hints) (set_of l.set)
