use Rattle.std.proofs.Common.{◌≡◌, ◌≤◌, drop}
use Rattle.fol_formula.specs.View.{forms, terms}
use Rattle.fol_formula.specs.Indices.{IndicesFitAll, IndicesFitTerms}
use Rattle.fol_subst.specs.Extents.{beside, places_forms, places_terms}
use Rattle.fol_subst.proofs.places.+places.Given as goal

abbrev pub invariant-places_in_formulas-loop-p : goal.invariant-places_in_formulas-loop-p
invariant-places_in_formulas-loop-p l = record {
  small : l.all.count ≤ 1000001;
  places : beside l.all (places_forms l.index (forms (drop l.p-index l.formulas)))
      ≡ places_forms l.index (forms l.formulas);
  indices : IndicesFitAll (forms (drop l.p-index l.formulas)) → IndicesFitAll (forms l.formulas);
}

abbrev pub invariant-places_in_terms-loop-t : goal.invariant-places_in_terms-loop-t
invariant-places_in_terms-loop-t l = record {
  small : l.all.count ≤ 1000001;
  places : beside l.all (places_terms l.index (terms (drop l.t-index l.terms))) ≡ places_terms l.index (terms l.terms);
  indices : IndicesFitTerms (terms (drop l.t-index l.terms)) → IndicesFitTerms (terms l.terms);
}
