use Rattle.std.proofs.Common.{subst}
use Rattle.limits.specs.Ceilings.{ceilings}
use Rattle.ea_decide.specs.Measuring.{IsMeasured}
use Rattle.obligation_decide.proofs.measuring.measured.Goals as goal

pub returns-in-Within : goal.returns-in-Within
returns-in-Within c = λ sig p size.
    subst (IsMeasured (ceilings c.args.limits.now) sig p) c.in-Within.is (c.measure_size.ensures sig p size)
