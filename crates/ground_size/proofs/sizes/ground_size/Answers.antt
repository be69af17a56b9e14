use Rattle.std.proofs.Common.{true, ap, ◌∙◌}
use Rattle.fol_formula.specs.Counts.{saturated}
use Rattle.fol_nnf.specs.Normal.{normal}
use Rattle.ground_size.specs.Sizes.{instance_nodes}
use Rattle.ground_size.proofs.sizes.ground_size.Goals as goal

pub returns : goal.returns
returns c = λ terms is.
    c.with_axioms.ensures terms c.args.sentence.now is
    (c.sizes_of-nodes.ensures.positive ∙ ap (λ p. saturated (instance_nodes c.args.counts.now (normal true p)))
    (c.formula.ensures.value ∙ c.sentence.ensures.value))
