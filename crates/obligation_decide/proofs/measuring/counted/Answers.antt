use Rattle.std.proofs.Common.{[], ap, subst}
use Rattle.fol_pool.specs.Trees.{as_formula}
use Rattle.fol_pool.specs.Growing.{is_form}
use Rattle.rml_wp.specs.declared.premises.Premises.TheVariants.{All}
use Rattle.ground_size.specs.Found.{IsGroundSize}
use Rattle.obligation_decide.proofs.SameAnswer.{strata_of}
use Rattle.obligation_decide.proofs.Counted.{in_fragment, fits_given}
use Rattle.obligation_decide.proofs.measuring.counted.Goals as goal

pub ground_size-requires-clause-strata : goal.ground_size-requires-clause-strata
ground_size-requires-clause-strata c =
    strata_of c.args.checked.now c.args.goal.now c.answered_goal.ensures.answered c.args.answered.now
    c.requires.answered c.strata.result.now c.strata.ensures

pub ground_size-requires-clause-sentence : goal.ground_size-requires-clause-sentence
ground_size-requires-clause-sentence c = is_form c.args.shared.now.pool c.args.sentence.0 _ c.requires.sentence

pub ground_size-requires-clause-fragment : goal.ground_size-requires-clause-fragment
ground_size-requires-clause-fragment c =
    let m = c.args.checked.now in
    let added = c.sentence_law.ensures.conjectures m [] c.model-model.ensures.checked tt tt in
    in_fragment m c.args.goal.now [] _ (ap as_formula c.requires.sentence.1)
    (c.sentence_law.ensures.fit All m m.conjectures [] c.args.goal.now c.model-model.ensures.checked
    c.answered_goal.ensures.signature c.requires.goal added.all)

pub ground_size-requires-clause-fits : goal.ground_size-requires-clause-fits
ground_size-requires-clause-fits c =
    let m = c.args.checked.now in
    let added = c.sentence_law.ensures.conjectures m [] c.model-model.ensures.checked tt tt in
    fits_given m c.args.goal.now [] _ (ap as_formula c.requires.sentence.1) c.args.answered.now c.requires.answered
    (c.sentence_law.ensures.fit All m m.conjectures [] c.args.goal.now c.model-model.ensures.checked
    c.answered_goal.ensures.signature c.requires.goal added.all)

pub returns-clause-size : goal.returns-clause-size
returns-clause-size c =
    subst (λ p. IsGroundSize c.args.answered.now p c.in_ok-found.found) (ap as_formula c.requires.sentence.1)
    c.in_ok-found.ensures.size
