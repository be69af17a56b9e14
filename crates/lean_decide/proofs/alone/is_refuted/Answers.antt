use Rattle.std.proofs.Common.{[], sym, subst}
use Rattle.fol_sig.specs.Symbols.{symbols}
use Rattle.fol_formula.specs.Syntax.{FormTree}
use Rattle.fol_formula.specs.Fits.{FitsForm}
use Rattle.rml_wp.specs.Preconditions.{answered}
use Rattle.lean_decide.proofs.Answered.{strata_of, same_fits}
use Rattle.lean_decide.proofs.OwnConjecture.{conjecture_fits, precondition_fits}
use Rattle.lean_decide.proofs.alone.is_refuted.Goals as goal

pub decide-decided-requires-clause-strata : goal.decide-decided-requires-clause-strata
decide-decided-requires-clause-strata c =
    strata_of c.args.checked.now c.args.goal.now c.answered_goal.ensures.answered c.args.answered.now
    c.requires.answered c.strata.result.now c.strata.ensures

pub decide-decided-requires-clause-fits : goal.decide-decided-requires-clause-fits
decide-decided-requires-clause-fits c =
    let m = c.args.checked.now in
    let g = c.args.goal.now in
    let law = c.sentence_law.ensures in
    let checked = c.model-model.ensures.checked in
    let is = c.answered_goal.ensures.answered in
    let added = (law.conjectures m [] checked tt tt).all in
    let first = c.index-conjectures-number.result in
    let held = is.sentences first (conjecture_fits m c.conjectures.result.now _ c.args.number _ first
    c.conjectures.ensures.value c.model-model.ensures.value c.index-conjectures-number.is c.requires.number
    checked.model.fits) in
    let broken = subst (λ (q : FormTree). FitsForm (symbols (answered m g)) [] q) (sym c.requires.precondition)
    (precondition_fits law.fit m g checked c.answered_goal.ensures.signature c.requires.goal added) in
    same_fits _ (answered m g) c.in_ok-sentence.sentence c.requires.answered
    (subst (λ (q : FormTree). FitsForm (symbols (answered m g)) [] q) (sym c.in_ok-sentence.ensures)
    (held, (broken, tt)))
