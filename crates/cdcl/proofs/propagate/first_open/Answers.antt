use Rattle.std.proofs.Common.{◌≡◌, ◌<◌, arith, length, inl, inr, get_or, sym, ◌∙◌}
use Rattle.std.proofs.lemmas.Grind.{common_steps, get_or_default_zero}
use Rattle.cdcl.specs.Trail.{is_set}
use Rattle.cdcl.proofs.Members.{member-get_or, false_but_more}
use Rattle.cdcl.proofs.propagate.first_open.Goals as goal
use Rattle.cdcl.proofs.propagate.first_open.Goals.{else-ne-via-then-ne+then-ne-2+else-not-is_set}
use Rattle.cdcl.proofs.propagate.first_open.Goals.{else-ne-via-then-ne+else-ne-2, else-ne-via-else-ne}

pub returns-then-not-is_set : goal.returns-then-not-is_set
returns-then-not-is_set c =
    let lt : c.loop-position.position < length c.args.clause.now = omega arith in
    let e : c.index-clause-position.result ≡ get_or c.args.clause.now c.loop-position.position 0 =
    c.index-clause-position.is
    ∙ get_or_default_zero c.args.clause.now c.loop-position.position c.index-clause-position.result lt in
    record {
      stands = rw e (member-get_or c.args.clause.now c.loop-position.position lt);
      not_first = λ q. (let a = c.if-ne.ensures in grind (arith, common_steps, a, q));
      not_second = λ q. (let a = c.if-ne-2.ensures in grind (arith, common_steps, a, q));
      not_false = rw (← c.opposite.ensures) (sym c.if-not-is_set.ensures);
    }

pub loop-position-preserved : goal.loop-position-preserved
loop-position-preserved c =
    let lt : c.loop-position.position < length c.args.clause.now = omega arith in
    let e : get_or c.args.clause.now c.loop-position.position 0 ≡ c.index-clause-position.result =
    sym (get_or_default_zero c.args.clause.now c.loop-position.position c.index-clause-position.result lt)
    ∙ sym c.index-clause-position.is in
    false_but_more (is_set c.args.trail.now.steps) c.args.clause.now c.args.one c.args.other c.loop-position.position lt
    (elim c.else-ne.branch [
      | else-ne-via-then-ne+then-ne-2+else-not-is_set w ↦ inr
          (inr (rw (e, ← w.opposite.ensures) (sym w.if-not-is_set.ensures)))
      | else-ne-via-then-ne+else-ne-2 w ↦ inr (inl (let a = w.if-ne-2.ensures in grind (arith, common_steps, a, e)))
      | else-ne-via-else-ne w ↦ inl (let a = w.if-ne.ensures in grind (arith, common_steps, a, e))
    ])
    c.loop-position.invariant
