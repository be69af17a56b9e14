use Rattle.fol_formula.specs.View.{form, forms, terms}
use Rattle.fol_subst.proofs.Counting.{places-next, none-beside, places_forms-small, places_terms-small}
use Rattle.std.proofs.Common.{◌∙◌, arith}
use Rattle.fol_subst.proofs.places.+places.Goals as goal

pub places_inside-returns-clause-places : goal.places_inside-returns-clause-places
places_inside-returns-clause-places t c =
    c.places_in_formula.ensures.places ∙ places-next (form c.args.formula.now) c.args.index c.saturating_add.result
    c.places_in_formula.ensures.indices c.saturating_add.ensures

pub places_in_formulas-loop-p-init : goal.places_in_formulas-loop-p-init
places_in_formulas-loop-p-init t c = record {
  small = omega arith;
  places = none-beside _ (places_forms-small c.args.index (forms c.args.formulas.now));
  indices = λ h. h;
}

pub places_in_terms-loop-t-init : goal.places_in_terms-loop-t-init
places_in_terms-loop-t-init t c = record {
  small = omega arith;
  places = none-beside _ (places_terms-small c.args.index (terms c.args.terms.now));
  indices = λ h. h;
}
