use Rattle.std.proofs.Common.{[], ◌∙◌, sym}
use Rattle.rml_wp.specs.declared.premises.Premises.TheVariants.{All}
use Rattle.rml_command.specs.InductiveSets.{conjectures_of}
use Rattle.limits.specs.Ceilings.{ceilings}
use Rattle.obligation_decide.proofs.Holding.{held_by}
use Rattle.obligation_decide.proofs.decide_with.Goals as goal

pub decide_sentence-decided-requires-clause-sentence : goal.decide_sentence-decided-requires-clause-sentence
decide_sentence-decided-requires-clause-sentence c =
    let m = c.args.checked.now in
    let held = conjectures_of m c.args.held.now in
    record {
      held = held;
      more = [];
      added = (c.sentence_law.ensures.conjectures m [] c.model-checked.ensures.checked tt tt).some c.args.held.now;
      is = c.in-Ok.ensures.sentence ∙ sym (c.sentence_law.ensures.alone All m held c.args.goal.now);
    }

pub returns-in_ok-decision-in-Ok : goal.returns-in_ok-decision-in-Ok
returns-in_ok-decision-in-Ok c =
    let m = c.args.checked.now in
    let checked = c.model-checked.ensures.checked in
    let added = (c.sentence_law.ensures.conjectures m [] checked tt tt).some c.args.held.now in
    held_by (ceilings c.args.limits.now) m c.args.goal.now (conjectures_of m c.args.held.now)
    c.in-Ok.ensures.within c.answered_law.ensures.cuts c.sentence_law.ensures.alone checked.model.fits
    c.answered_goal.ensures.signature c.requires.goal added
    _ _ c.in-Ok.ensures.sentence c.in_ok-decision-in-Ok.ensures
