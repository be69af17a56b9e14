use Rattle.std.proofs.Common.{sym, ◌∙◌}
use Rattle.cnf_base.specs.LitSetValue.{set_of}
use Rattle.lrat_check.specs.Spans.{held_in}
use Rattle.lrat_check.proofs.Steps.{addition_runs}
use Rattle.lrat_check.proofs.table.check_clause.Goals as goal

pub returns-clause-outcome : goal.returns-clause-outcome
returns-clause-outcome c =
    addition_runs (held_in c.args.literals.now c.args.spans.now) c.args.clause.now c.args.hints.now
    (set_of c.mark_false.new.set) c.in_ok-outcome.outcome
    (sym c.in_ok-is_true.ensures.opposites ∙ c.if-is_true.false)
    (c.in_ok-is_true.ensures.marks c.if-is_true.false) c.in_ok-outcome.ensures
