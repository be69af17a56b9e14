use Rattle.rml_wp.specs.declared.premises.Premises.TheVariants.{All}
use Rattle.limits.specs.Ceilings.{ceilings}
use Rattle.obligation_decide.proofs.SameAnswer.{strata_of}
use Rattle.obligation_decide.proofs.Counted.{lent, in_fragment, fits_given, measured_as}
use Rattle.obligation_decide.proofs.measuring.measure_refuting.Goals as goal

pub measure_parts-requires-clause-strata : goal.measure_parts-requires-clause-strata
measure_parts-requires-clause-strata c =
    strata_of c.args.checked.now c.args.goal.now c.answered_goal.ensures.answered c.args.answered.now
    c.requires.answered c.strata.result.now c.strata.ensures

pub measure_parts-requires-clause-fragment : goal.measure_parts-requires-clause-fragment
measure_parts-requires-clause-fragment c =
    let m = c.args.checked.now in
    let more = c.args.more.now in
    let is =
    lent m _ c.args.goal.now _ _ _ more _ _ c.model-model.ensures.value c.axioms-axioms.ensures.value
    c.conjectures.ensures.value c.held_before-held.ensures c.sentence.ensures.value c.requires.precondition in
    let added =
    c.sentence_law.ensures.conjectures m more c.model-model.ensures.checked c.requires.fragment c.requires.fits in
    in_fragment m c.args.goal.now more _ is
    (c.sentence_law.ensures.fit All m m.conjectures more c.args.goal.now c.model-model.ensures.checked
    c.answered_goal.ensures.signature c.requires.goal added.all)

pub measure_parts-requires-clause-fits : goal.measure_parts-requires-clause-fits
measure_parts-requires-clause-fits c =
    let m = c.args.checked.now in
    let more = c.args.more.now in
    let is =
    lent m _ c.args.goal.now _ _ _ more _ _ c.model-model.ensures.value c.axioms-axioms.ensures.value
    c.conjectures.ensures.value c.held_before-held.ensures c.sentence.ensures.value c.requires.precondition in
    let added =
    c.sentence_law.ensures.conjectures m more c.model-model.ensures.checked c.requires.fragment c.requires.fits in
    fits_given m c.args.goal.now more _ is c.args.answered.now c.requires.answered
    (c.sentence_law.ensures.fit All m m.conjectures more c.args.goal.now c.model-model.ensures.checked
    c.answered_goal.ensures.signature c.requires.goal added.all)

pub returns-in-Within : goal.returns-in-Within
returns-in-Within c =
    let m = c.args.checked.now in
    let more = c.args.more.now in
    let is =
    lent m _ c.args.goal.now _ _ _ more _ _ c.model-model.ensures.value c.axioms-axioms.ensures.value
    c.conjectures.ensures.value c.held_before-held.ensures c.sentence.ensures.value c.requires.precondition in
    measured_as m c.args.goal.now more _ is (ceilings c.args.limits.now) c.args.answered.now _ _ c.in-Within.is
    c.in_ok-size.ensures
