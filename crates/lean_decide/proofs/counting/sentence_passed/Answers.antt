use Rattle.std.proofs.Common.{[], sym, ◌∙◌}
use Rattle.rml_wp.specs.declared.premises.Premises.TheVariants.{Affected}
use Rattle.rml_wp.specs.Preconditions.{answered}
use Rattle.limits.specs.Ceilings.{ceilings}
use Rattle.lean_decide.proofs.NoCounterexample.{lean_fits}
use Rattle.lean_decide.proofs.Answered.{strata_of, same_fits, same_measured}
use Rattle.lean_decide.proofs.LeanSettled.{lean_within, lean_over}
use Rattle.lean_decide.proofs.counting.sentence_passed.Goals as goal

pub measure-requires-clause-strata : goal.measure-requires-clause-strata
measure-requires-clause-strata c =
    strata_of c.args.checked.now c.args.goal.now c.answered_goal.ensures.answered c.args.answered.now
    c.requires.answered c.strata.result.now c.strata.ensures

pub measure-requires-clause-fits : goal.measure-requires-clause-fits
measure-requires-clause-fits c =
    let m = c.args.checked.now in
    let law = c.sentence_law.ensures in
    let sig = c.requires.answered in
    same_fits _ (answered m c.args.goal.now) c.args.sentence.now sig
    (lean_fits law.fit m c.args.goal.now c.args.sentence.now c.model-checked.ensures.checked
    c.answered_goal.ensures.signature c.requires.goal (record {
      held = m.conjectures;
      more = [];
      added = (law.conjectures m [] c.model-checked.ensures.checked tt tt).all;
      is = c.requires.sentence ∙ sym (law.alone Affected m m.conjectures c.args.goal.now);
    }))

pub returns-in-Ok-Within : goal.returns-in-Ok-Within
returns-in-Ok-Within c =
    let m = c.args.checked.now in
    let sig = c.requires.answered in
    lean_within (ceilings c.args.limits.now) m c.args.goal.now _ c.requires.within
    (same_measured (ceilings c.args.limits.now) _ (answered m c.args.goal.now) _ _ _ _ sig c.requires.sentence
    c.in-Ok-Within.field-0-is c.in-Ok-Within.ensures.measured)

pub returns-in-Ok-Over : goal.returns-in-Ok-Over
returns-in-Ok-Over c =
    let m = c.args.checked.now in
    let sig = c.requires.answered in
    lean_over (ceilings c.args.limits.now) m c.args.goal.now c.in-Ok-Over.passed c.cause_of.result c.cause_of.ensures
    c.requires.within
    (same_measured (ceilings c.args.limits.now) _ (answered m c.args.goal.now) _ _ _ _ sig c.requires.sentence
    c.in-Ok-Over.field-0-is c.in-Ok-Over.ensures.measured)
