use Rattle.std.proofs.Common.{ap, ◌∙◌}
use Rattle.std.specs.Prelude.{sum}
use Rattle.fol_formula.specs.Counts.{saturated}
use Rattle.ground_size.proofs.Saturated.{sum-alike}
use Rattle.ground_size.proofs.counts.Counts.total.Goals as goal

pub returns : goal.returns
returns c = λ counts e. c.total_of.ensures ∙ ap (λ ns. saturated (sum ns)) (c.deref.ensures.value ∙ c.self.view_is ∙ e)
    ∙ sum-alike counts
