use Rattle.std.proofs.Common.{◌≡◌, ◌++◌, length}
use Rattle.lrat_log.specs.Logs.{IsLogOver}
use Rattle.lrat_log.specs.Accepted.{IsAccepted}
use Rattle.lrat_log.specs.Held.{held_of}
use Rattle.lrat_check.specs.Checked.{last_of, held_now}
use Rattle.lrat_check.specs.Whole.{first_refusal}
use Rattle.lrat_check.proofs.whole.check_log.Given as goal

abbrev pub invariant-loop-rest : goal.invariant-loop-rest
invariant-loop-rest l = record {
  formula : l.checker.formula ≡ l.cnf;
  splits : l.log ≡ l.checker.lines ++ l.rest;
  over : IsLogOver l.cnf.variables (last_of l.checker) l.rest;
  accepted : IsAccepted l.cnf l.checker.lines;
  refusal : first_refusal (held_of l.cnf) l.log ≡ first_refusal (held_now l.checker) l.rest;
}

abbrev pub decreases-loop-rest : goal.decreases-loop-rest
decreases-loop-rest l = length l.rest
