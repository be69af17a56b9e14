use Rattle.std.proofs.Common.{sym, ◌∙◌}
use Rattle.lrat_check.proofs.checker.Checker.is_refuted.Goals as goal

pub returns-clause-unsatisfiable : goal.returns-clause-unsatisfiable
returns-clause-unsatisfiable c t =
    rw (← c.self.view_is)
    (c.soundness.ensures.refutation c.self.inside.cnf c.self.inside.lines.items c.self.invariant.accepted
    (sym c.self.invariant.refuted ∙ t))
