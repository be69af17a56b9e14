use Rattle.std.proofs.Common.{◌∙◌, ap}
use Rattle.fol_formula.specs.Syntax.{forms_of}
use Rattle.ground_size.specs.Conjoined.{forms_at}
use Rattle.ground_size.specs.Walks.{all_raised}
use Rattle.ground_size.proofs.Conjoining.{raised-turn}
use Rattle.ground_size.proofs.parts.add_existentials_of_parts.Goals as goal

pub loop-part-preserved : goal.loop-part-preserved
loop-part-preserved c =
    raised-turn c.args.parts.now c.loop-part.part-index c.part-item.result c.loop-part.counts
    c.add_existentials_of_part.new.counts _ c.loop-part-test.true
    (c.add_existentials_of_part.ensures
    ∙ ap (λ part. all_raised 1 0 (forms_of (forms_at part)) c.loop-part.counts) c.part-item.is)
    c.loop-part.invariant
