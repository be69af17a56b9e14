use Rattle.std.proofs.Common.{◌≡◌, ◌+◌, ◌≤◌, length, drop}
use Rattle.fol_formula.specs.View.{forms, terms}
use Rattle.fol_subst.specs.Changes.{change_of}
use Rattle.fol_subst.specs.Room.{ReadyForms, ReadyTerms}
use Rattle.fol_subst.specs.Extents.{beside, extent_forms, extent_terms, extent_instance}
use Rattle.fol_subst.proofs.measure.Measure.+measure.Given as goal

abbrev pub invariant-formulas-loop-p : goal.invariant-formulas-loop-p
invariant-formulas-loop-p l = record {
  ready : ReadyForms (change_of l.change) (forms (drop l.p-index l.ps));
  small : l.all.count ≤ 1000001;
  counted : beside l.all (extent_forms (change_of l.change) (forms (drop l.p-index l.ps)))
      ≡ extent_forms (change_of l.change) (forms l.ps);
}

abbrev pub invariant-terms-loop-t : goal.invariant-terms-loop-t
invariant-terms-loop-t l = record {
  ready : ReadyTerms (change_of l.change) (terms (drop l.t-index l.ts));
  small : l.all.count ≤ 1000001;
  counted : beside l.all (extent_terms (change_of l.change) (terms (drop l.t-index l.ts)))
      ≡ extent_terms (change_of l.change) (terms l.ts);
}

abbrev pub invariant-instance-loop-t : goal.invariant-instance-loop-t
invariant-instance-loop-t l = record {
  few : length l.args ≤ 8;
  left : l.index + l.t-index ≡ length l.args;
  ready : ReadyTerms (change_of l.change) (terms (drop l.t-index l.args));
  counted : extent_instance (change_of l.change) l.all (terms (drop l.t-index l.args))
      ≡ extent_instance (change_of l.change) l.self.whole (terms l.args);
}
