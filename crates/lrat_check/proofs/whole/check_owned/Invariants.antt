use Rattle.std.proofs.Common.{◌≡◌, ◌++◌}
use Rattle.std.specs.Vec.Iter.{into_iter_items, into_iter_len}
use Rattle.lrat_log.specs.Logs.{IsLogOver}
use Rattle.lrat_log.specs.Accepted.{IsAccepted}
use Rattle.lrat_log.specs.Held.{held_of}
use Rattle.lrat_check.specs.Checked.{last_of, held_now}
use Rattle.lrat_check.specs.Whole.{first_refusal}
use Rattle.lrat_check.proofs.whole.check_owned.Given as goal

abbrev pub invariant-loop-line : goal.invariant-loop-line
invariant-loop-line l = record {
  formula : l.checker.formula ≡ l.fn.cnf;
  splits : l.fn.log ≡ l.checker.lines ++ into_iter_items l.lines;
  over : IsLogOver l.fn.cnf.variables (last_of l.checker) (into_iter_items l.lines);
  accepted : IsAccepted l.fn.cnf l.checker.lines;
  refusal : first_refusal (held_of l.fn.cnf) l.fn.log ≡ first_refusal (held_now l.checker) (into_iter_items l.lines);
}

abbrev pub decreases-loop-line : goal.decreases-loop-line
decreases-loop-line l = into_iter_len l.lines
