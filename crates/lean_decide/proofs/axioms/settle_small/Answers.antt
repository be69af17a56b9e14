use Rattle.limits.specs.Ceilings.{ceilings}
use Rattle.lean_decide.proofs.Answered.{signature_of}
use Rattle.lean_decide.proofs.AxiomsSettled.{and_fits, refuted_by, satisfied_by}
use Rattle.lean_decide.proofs.axioms.settle_small.Goals as goal

pub decide-requires-clause-fits : goal.decide-requires-clause-fits
decide-requires-clause-fits c =
    let m = c.args.checked.now in
    let sig = signature_of _ _ m c.signature-signature.ensures.value c.model.ensures.value in
    and_fits m (c.axioms_law.ensures m c.model.ensures.checked.model.fits) _ _ sig c.requires.sentence

pub returns-in-Ok-Refuted : goal.returns-in-Ok-Refuted
returns-in-Ok-Refuted c =
    let m = c.args.checked.now in
    let sig = signature_of _ _ m c.signature-signature.ensures.value c.model.ensures.value in (
      c.requires.small,
      refuted_by (ceilings c.args.limits.now) m (c.axioms_law.ensures m c.model.ensures.checked.model.fits) _ _ _ _ sig
          c.requires.sentence c.in-Ok-Refuted.field-0-is c.in-Ok-Refuted.ensures.decided,
    )

pub returns-in-Ok-Satisfied : goal.returns-in-Ok-Satisfied
returns-in-Ok-Satisfied c =
    let m = c.args.checked.now in
    let sig = signature_of _ _ m c.signature-signature.ensures.value c.model.ensures.value in (
      c.requires.small,
      satisfied_by (ceilings c.args.limits.now) m (c.axioms_law.ensures m c.model.ensures.checked.model.fits) _ _ _ _
          sig c.requires.sentence c.in-Ok-Satisfied.field-0-is c.in-Ok-Satisfied.ensures.decided,
    )
