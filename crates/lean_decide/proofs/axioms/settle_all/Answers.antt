use Rattle.limits.specs.Ceilings.{ceilings}
use Rattle.lean_decide.proofs.Answered.{signature_of}
use Rattle.lean_decide.proofs.AxiomsSettled.{and_fits, passes_by}
use Rattle.lean_decide.proofs.axioms.settle_all.Goals as goal

pub measure-requires-clause-fits : goal.measure-requires-clause-fits
measure-requires-clause-fits c =
    let m = c.args.checked.now in
    let sig = signature_of _ _ m c.signature-signature.ensures.value c.model.ensures.value in
    and_fits m (c.axioms_law.ensures m c.model.ensures.checked.model.fits) _ _ sig c.requires.sentence

pub settle_small-requires-clause-small : goal.settle_small-requires-clause-small
settle_small-requires-clause-small c =
    let m = c.args.checked.now in
    let sig = signature_of _ _ m c.signature-signature.ensures.value c.model.ensures.value in
    passes_by (ceilings c.args.limits.now) m _ _ _ _ sig c.requires.sentence c.in-Within.is c.in_ok-measure.ensures
