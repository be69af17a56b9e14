use Rattle.limits.specs.Ceilings.{ceilings}
use Rattle.obligation_decide.proofs.Restricting.{AreExact, restricted_by}
use Rattle.obligation_decide.proofs.decide_where.Goals as goal

pub decide_sentence-decided-requires-clause-sentence : goal.decide_sentence-decided-requires-clause-sentence
decide_sentence-decided-requires-clause-sentence c =
    let m = c.args.checked.now in
    record {
      held = m.conjectures;
      more = c.args.more.now;
      added = (c.sentence_law.ensures.conjectures m c.args.more.now c.model-checked.ensures.checked c.requires.fragment
          c.requires.fits).all;
      is = c.in-Ok.ensures.sentence;
    }

pub returns-in_ok-decision-in-Ok : goal.returns-in_ok-decision-in-Ok
returns-in_ok-decision-in-Ok c =
    let m = c.args.checked.now in
    let checked = c.model-checked.ensures.checked in
    let exact : AreExact = record { cuts = c.answered_law.ensures.cuts } in
    let added = (c.sentence_law.ensures.conjectures m c.args.more.now checked c.requires.fragment c.requires.fits).all
    in
    restricted_by (ceilings c.args.limits.now) m c.args.goal.now c.args.more.now
    c.in-Ok.ensures.within exact checked.model.fits c.answered_goal.ensures.signature c.answered_goal.ensures.answered
    c.requires.goal added
    _ _ c.in-Ok.ensures.sentence c.in_ok-decision-in-Ok.ensures
