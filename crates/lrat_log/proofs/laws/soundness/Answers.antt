use Rattle.lrat_log.proofs.Sound.{addition_follows, refuted_is_unsatisfiable}
use Rattle.lrat_log.proofs.laws.soundness.Goals as goal

pub returns-clause-addition : goal.returns-clause-addition
returns-clause-addition c = addition_follows c.opposite_laws.ensures.truth

pub returns-clause-refutation : goal.returns-clause-refutation
returns-clause-refutation c = refuted_is_unsatisfiable c.opposite_laws.ensures.truth
