use Rattle.std.proofs.Common.{◌≡◌, ◌<◌, arith, length, ap, sym, ◌∙◌, get_or}
use Rattle.std.proofs.lemmas.Grind.{get_or_default_zero}
use Rattle.cnf_base.specs.Literals.{opposite}
use Rattle.cdcl.proofs.Marking.{marked_more, marked_skips}
use Rattle.cdcl.proofs.analyse.mark_clause.Goals as goal
use Rattle.cdcl.proofs.analyse.mark_clause.Goals.{then-not-is_left_out, else-not-is_left_out}

pub loop-l-preserved : goal.loop-l-preserved
loop-l-preserved c =
    let lt : c.loop-l.l-index < length c.args.clause.now = omega arith in
    let e : get_or c.args.clause.now c.loop-l.l-index 0 ≡ c.l-item.result =
    sym (get_or_default_zero c.args.clause.now c.loop-l.l-index c.l-item.result lt) ∙ sym c.l-item.is in
    elim c.if-not-is_left_out.branch [
      | then-not-is_left_out w ↦ rw (w.marks-is, w.code.ensures.code)
          (marked_more c.args.marks.now c.loop-l.marks c.args.clause.now c.loop-l.l-index c.args.except
          w.opposite-o.result lt
          (w.opposite-o.ensures ∙ ap opposite (sym e)) (let a = c.requires.small c.loop-l.l-index 0 lt in
          rw (w.opposite-o.ensures, ← e, c.loop-l.auto.marks, c.requires.size) a.1)
          (rw e (sym w.if-not-is_left_out.ensures)) c.loop-l.invariant)
      | else-not-is_left_out w ↦ rw w.marks-is
          (marked_skips c.args.marks.now c.loop-l.marks c.args.clause.now c.loop-l.l-index c.args.except lt
          (rw e (sym w.if-not-is_left_out.ensures)) c.loop-l.invariant)
    ]
