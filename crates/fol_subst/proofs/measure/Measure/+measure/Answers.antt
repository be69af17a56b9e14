use Rattle.std.proofs.Common.{◌-◌, arith, refl}
use Rattle.fol_formula.specs.View.{forms, terms}
use Rattle.fol_subst.specs.Changes.{change_of}
use Rattle.fol_subst.proofs.Counting.{none-beside, extent_forms-small, extent_terms-small}
use Rattle.fol_subst.proofs.Rooms.{args-drop, turn-ready, instance-more}
use Rattle.fol_subst.proofs.measure.Measure.+measure.Goals as goal

pub formulas-loop-p-init : goal.formulas-loop-p-init
formulas-loop-p-init t c = record {
  ready = c.requires.ready;
  small = omega arith;
  counted = none-beside _ (extent_forms-small (change_of c.args.change.now) (forms c.args.ps.now));
}

pub terms-loop-t-init : goal.terms-loop-t-init
terms-loop-t-init t c = record {
  ready = c.requires.ready;
  small = omega arith;
  counted = none-beside _ (extent_terms-small (change_of c.args.change.now) (terms c.args.ts.now));
}

pub instance-loop-t-init : goal.instance-loop-t-init
instance-loop-t-init t c = record {
  few = omega (arith, c.requires.few, c.lists.ensures.rows.term_count c.args.args.now);
  left = omega arith;
  ready = c.requires.ready;
  counted = refl;
}

pub instance-loop-t-preserved : goal.instance-loop-t-preserved
instance-loop-t-preserved t c =
    let h = c.loop-t.invariant in
    let size = args-drop c.lists.ensures.rows c.args.args.now c.loop-t.index c.loop-t.t-index c.t-item.result h.few
    h.left c.loop-t-test.true in
    record {
      few = h.few;
      left = omega arith;
      ready = (turn-ready c.lists.ensures.terms (change_of c.args.change.now) c.args.args.now c.loop-t.t-index
          c.t-item.result c.loop-t-test.true c.t-item.is h.ready).1;
      counted = instance-more c.lists.ensures.terms (change_of c.args.change.now) c.args.args.now c.loop-t.t-index
          (c.loop-t.index - 1) c.t-item.result c.loop-t.all _ c.term.result c.put_in-all.result _ c.loop-t-test.true
          c.t-item.is size (c.requires.measures.places (c.loop-t.index - 1) _ (omega arith)) c.term.ensures
          c.put_in-all.ensures h.counted;
    }
