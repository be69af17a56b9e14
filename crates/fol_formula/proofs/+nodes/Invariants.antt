use Rattle.std.proofs.Common.{◌≡◌, ◌+◌, ◌<◌, ◌^◌, drop}
use Rattle.fol_formula.specs.View.{forms, terms}
use Rattle.fol_formula.specs.Counts.{forms_nodes, terms_nodes, saturated}
use Rattle.fol_formula.specs.Indices.{IndicesFitAll, IndicesFitTerms}
use Rattle.fol_formula.proofs.+nodes.Given as goal

abbrev pub invariant-counts::nodes_of_formulas-loop-p : goal.invariant-counts::nodes_of_formulas-loop-p
invariant-counts::nodes_of_formulas-loop-p l = record {
  small : l.sum < 2 ^ 64;
  counted : saturated (l.sum + forms_nodes (forms (drop l.p-index l.formulas)))
      ≡ saturated (forms_nodes (forms l.formulas));
  indices : IndicesFitAll (forms (drop l.p-index l.formulas)) → IndicesFitAll (forms l.formulas);
}

abbrev pub invariant-counts::nodes_of_terms-loop-t : goal.invariant-counts::nodes_of_terms-loop-t
invariant-counts::nodes_of_terms-loop-t l = record {
  small : l.sum < 2 ^ 64;
  counted : saturated (l.sum + terms_nodes (terms (drop l.t-index l.terms)))
      ≡ saturated (terms_nodes (terms l.terms));
  indices : IndicesFitTerms (terms (drop l.t-index l.terms)) → IndicesFitTerms (terms l.terms);
}
