use Rattle.std.proofs.Common.{◌≡◌, drop}
use Rattle.lrat_log.specs.Accepted.{all_but}
use Rattle.cnf_base.specs.LitSetValue.{set_of}
use Rattle.lrat_check.proofs.hints.all_but_false.Given as goal

abbrev pub invariant-loop-x : goal.invariant-loop-x
invariant-loop-x l = all_but (set_of l.set) l.lit l.clause ≡ all_but (set_of l.set) l.lit (drop l.x-index l.clause)
