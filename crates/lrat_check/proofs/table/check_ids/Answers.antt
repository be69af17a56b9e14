use Rattle.std.proofs.Common.{arith, get_or, ap, inl, inr, is_some}
use Rattle.std.proofs.lemmas.Grind.{common_steps}
use Rattle.lrat_check.specs.Spans.{held_in}
use Rattle.lrat_check.proofs.Search.{held_nowhere, no_span}
use Rattle.lrat_check.proofs.Marked.{up_to_set}
use Rattle.lrat_check.proofs.Deletion.{deletion_refused, deletion_goes_on, deletion_marks, is_some_at}
use Rattle.lrat_check.proofs.table.check_ids.Goals as goal
use Rattle.lrat_check.proofs.table.check_ids.Goals.{then-not-spans-place-via-then-not-spans-place}
use Rattle.lrat_check.proofs.table.check_ids.Goals.{then-not-spans-place-via-else-not-spans-place+then-marks-place}

pub returns-in-None-clause-outcome : goal.returns-in-None-clause-outcome
returns-in-None-clause-outcome c literals =
    deletion_refused (held_in literals c.args.spans.now) c.args.ids.now c.loop-id.id-index (omega arith)
    (inl (ap is_some (held_nowhere literals c.args.spans.now _ c.in-None.ensures.none)))
    (c.loop-id.invariant.same literals)

pub returns-then-not-spans-place-clause-outcome : goal.returns-then-not-spans-place-clause-outcome
returns-then-not-spans-place-clause-outcome c literals =
    let a = is_some_at literals c.args.spans.now
    (get_or c.args.ids.now c.loop-id.id-index 0) c.in-Some.place no_span c.requires.sorted
    c.in-Some.ensures.some.0 (c.in-Some.ensures.some.1 no_span) in
    let m = c.loop-id.invariant.marks c.in-Some.place no_span c.in-Some.ensures.some.0 in
    let e = c.in-Some.ensures.some.1 no_span in
    deletion_refused (held_in literals c.args.spans.now) c.args.ids.now c.loop-id.id-index (omega arith)
    (elim c.then-not-spans-place.branch [
      | then-not-spans-place-via-then-not-spans-place w ↦ inl
          (let b = w.if-not-spans-place.true in grind (arith, common_steps, a, b))
      | then-not-spans-place-via-else-not-spans-place+then-marks-place w ↦ inr
          (let f = w.if-marks-place.true in grind (arith, common_steps, m, e, f))
    ])
    (c.loop-id.invariant.same literals)

pub loop-id-preserved : goal.loop-id-preserved
loop-id-preserved c = record {
  same = λ literals. deletion_goes_on (held_in literals c.args.spans.now) c.args.ids.now c.loop-id.id-index
      (omega arith)
      (let a = is_some_at literals c.args.spans.now
      (get_or c.args.ids.now c.loop-id.id-index 0) c.in-Some.place no_span c.requires.sorted
      c.in-Some.ensures.some.0 (c.in-Some.ensures.some.1 no_span) in
      let b = c.if-not-spans-place.false in grind (arith, common_steps, a, b))
      (let m = c.loop-id.invariant.marks c.in-Some.place no_span c.in-Some.ensures.some.0 in
      let e = c.in-Some.ensures.some.1 no_span in
      let f = c.if-marks-place.false in grind (arith, common_steps, m, e, f))
      (c.loop-id.invariant.same literals);
  marks = deletion_marks c.args.spans.now c.loop-id.marks c.args.ids.now c.args.epoch c.loop-id.id-index
      c.in-Some.place c.requires.sorted (omega arith) c.in-Some.ensures.some.0
      (omega arith) c.in-Some.ensures.some.1 c.loop-id.invariant.marks;
  past = up_to_set _ _ _ c.loop-id.invariant.past;
}
