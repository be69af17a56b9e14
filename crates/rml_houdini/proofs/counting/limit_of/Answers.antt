use Rattle.std.proofs.Common.{[], ◌∙◌}
use Rattle.rml_wp.specs.declared.premises.Premises.TheVariants.{All}
use Rattle.rml_command.specs.InductiveSets.{conjectures_of}
use Rattle.limits.specs.Ceilings.{ceilings}
use Rattle.rml_houdini.proofs.Assuming.{strata_of}
use Rattle.rml_houdini.proofs.Counted.{lent, in_fragment, fits_given, within_by, over_by}
use Rattle.rml_houdini.proofs.counting.limit_of.Goals as goal

pub measure_parts-requires-clause-strata : goal.measure_parts-requires-clause-strata
measure_parts-requires-clause-strata c =
    strata_of c.args.checked.now c.args.goal.now c.answered_goal.ensures.answered c.args.answered.now
    c.requires.answered c.strata.result.now c.strata.ensures

pub measure_parts-requires-clause-fragment : goal.measure_parts-requires-clause-fragment
measure_parts-requires-clause-fragment c =
    let m = c.args.checked.now in
    let g = c.args.goal.now in
    let ks = c.args.held.now in
    let law = c.sentence_law.ensures in
    let checked = c.model-model.ensures.checked in
    let is = lent m _ g ks _ _ _ _ _ _ c.model-model.ensures.value c.axioms-axioms.ensures.value
    c.conjectures.ensures.value (c.deref.ensures.value ∙ c.in_ok-chosen.ensures) c.held_before-before.ensures
    c.sentence.ensures.value c.requires.precondition in
    in_fragment m g (conjectures_of m ks) _ is law.alone
    (law.fit All m (conjectures_of m ks) [] g checked c.answered_goal.ensures.signature c.requires.goal
    ((law.conjectures m [] checked tt tt).some ks))

pub measure_parts-requires-clause-fits : goal.measure_parts-requires-clause-fits
measure_parts-requires-clause-fits c =
    let m = c.args.checked.now in
    let g = c.args.goal.now in
    let ks = c.args.held.now in
    let law = c.sentence_law.ensures in
    let checked = c.model-model.ensures.checked in
    let is = lent m _ g ks _ _ _ _ _ _ c.model-model.ensures.value c.axioms-axioms.ensures.value
    c.conjectures.ensures.value (c.deref.ensures.value ∙ c.in_ok-chosen.ensures) c.held_before-before.ensures
    c.sentence.ensures.value c.requires.precondition in
    fits_given m g (conjectures_of m ks) _ is law.alone c.args.answered.now c.requires.answered
    (law.fit All m (conjectures_of m ks) [] g checked c.answered_goal.ensures.signature c.requires.goal
    ((law.conjectures m [] checked tt tt).some ks))

pub returns-in-Within : goal.returns-in-Within
returns-in-Within c =
    let m = c.args.checked.now in
    let g = c.args.goal.now in
    let ks = c.args.held.now in
    let is = lent m _ g ks _ _ _ _ _ _ c.model-model.ensures.value c.axioms-axioms.ensures.value
    c.conjectures.ensures.value (c.deref.ensures.value ∙ c.in_ok-chosen.ensures) c.held_before-before.ensures
    c.sentence.ensures.value c.requires.precondition in
    within_by m g (conjectures_of m ks) _ is c.sentence_law.ensures.alone (ceilings c.args.limits.now)
    c.args.answered.now _ _ c.requires.answered c.in-Within.is
    c.in_ok-measure_parts.ensures

pub returns : goal.returns
returns c =
    let m = c.args.checked.now in
    let g = c.args.goal.now in
    let ks = c.args.held.now in
    let is = lent m _ g ks _ _ _ _ _ _ c.model-model.ensures.value c.axioms-axioms.ensures.value
    c.conjectures.ensures.value (c.deref.ensures.value ∙ c.in_ok-chosen.ensures) c.held_before-before.ensures
    c.sentence.ensures.value c.requires.precondition in
    over_by m g (conjectures_of m ks) _ is c.sentence_law.ensures.alone (ceilings c.args.limits.now)
    c.args.answered.now _ _ _ c.requires.answered c.in-Over.is
    c.cause_of.ensures c.in_ok-measure_parts.ensures
