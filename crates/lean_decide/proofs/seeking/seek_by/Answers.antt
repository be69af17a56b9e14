use Rattle.limits.specs.Ceilings.{ceilings}
use Rattle.lean_decide.proofs.NoCounterexample.{AreExact, nowhere_by, found_by, open_by}
use Rattle.lean_decide.proofs.seeking.seek_by.Goals as goal

pub decide_sentence-decided-requires-clause-sentence : goal.decide_sentence-decided-requires-clause-sentence
decide_sentence-decided-requires-clause-sentence c =
    let m = c.args.checked.now in
    record {
      held = m.conjectures;
      more = c.args.more.now;
      added = (c.sentence_law.ensures.conjectures m c.args.more.now c.model-checked.ensures.checked c.requires.fragment
          c.requires.fits).all;
      is = c.in_ok-sentence.ensures;
    }

pub returns-in-Ok-Holds : goal.returns-in-Ok-Holds
returns-in-Ok-Holds c =
    let m = c.args.checked.now in
    let more = c.args.more.now in
    let checked = c.model-checked.ensures.checked in
    let exact : AreExact = record {
      cuts = c.answered_law.ensures.cuts;
      parts = c.parts_law.ensures.truth;
    } in
    let added = (c.sentence_law.ensures.conjectures m more checked c.requires.fragment c.requires.fits).all in
    nowhere_by exact (ceilings c.args.limits.now) m c.args.goal.now checked.model.fits
    c.answered_goal.ensures.signature c.answered_goal.ensures.answered c.requires.goal more added _
    c.in_ok-sentence.ensures _ _ c.in-Ok-Holds.field-0-is c.in-Ok-Holds.ensures.decided

pub returns-in-Ok-Fails : goal.returns-in-Ok-Fails
returns-in-Ok-Fails c =
    let m = c.args.checked.now in
    let more = c.args.more.now in
    let checked = c.model-checked.ensures.checked in
    let exact : AreExact = record {
      cuts = c.answered_law.ensures.cuts;
      parts = c.parts_law.ensures.truth;
    } in
    let added = (c.sentence_law.ensures.conjectures m more checked c.requires.fragment c.requires.fits).all in
    found_by exact (ceilings c.args.limits.now) m c.args.goal.now checked.model.fits
    c.answered_goal.ensures.signature c.answered_goal.ensures.answered c.requires.goal more added _
    c.in_ok-sentence.ensures _ _ c.in-Ok-Fails.field-0-is c.in-Ok-Fails.ensures.decided

pub returns-in-Ok-Undecided : goal.returns-in-Ok-Undecided
returns-in-Ok-Undecided c =
    open_by (ceilings c.args.limits.now) c.args.checked.now c.args.goal.now c.args.more.now _ c.in_ok-sentence.ensures _
    _ c.in-Ok-Undecided.field-0-is c.in-Ok-Undecided.ensures.decided
