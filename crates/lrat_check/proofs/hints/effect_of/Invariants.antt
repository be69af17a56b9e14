use Rattle.std.proofs.Common.{◌≡◌, drop}
use Rattle.lrat_log.specs.Accepted.{effect_of_clause}
use Rattle.cnf_base.specs.LitSetValue.{set_of}
use Rattle.lrat_check.proofs.hints.effect_of.Given as goal

abbrev pub invariant-loop-i : goal.invariant-loop-i
invariant-loop-i l = effect_of_clause (set_of l.set) l.clause ≡ effect_of_clause (set_of l.set) (drop l.i l.clause)
