use Rattle.std.proofs.Common.{◌≡◌, ◌-◌, ◌+◌, length, map, drop}
use Rattle.fol_subst.specs.Replace.{change_rel}
use Rattle.fol_subst.specs.Kept.{kept}
use Rattle.fol_formula.specs.Syntax.{forms_then, terms_then}
use Rattle.fol_formula.specs.View.{form, term}
use Rattle.rml_terms.specs.Tree.{expr_trees, exprs_of}
use Rattle.rml_terms.specs.Shape.{ExprsNest}
use Rattle.rml_terms.specs.Within.{ExprsWithin}
use Rattle.rml_elaborate.specs.Formulas.{formulas_of, terms_of}
use Rattle.rml_names.specs.Scopes.{bound_names, max_bound}
use Rattle.rml_names.specs.Drafts.{words_in}
use Rattle.rml_elaborate.proofs.formulas.+formula.Given as goal

abbrev pub invariant-formulas-loop-e : goal.invariant-formulas-loop-e
invariant-formulas-loop-e l = record {
  nests : ExprsNest (max_bound - length (bound_names l.scope)) (exprs_of (expr_trees (drop l.e-index l.es)));
  within : ExprsWithin (length l.text) (exprs_of (expr_trees (drop l.e-index l.es)));
  made : forms_then (map form l.all.items)
      (formulas_of l.text (words_in l.draft.declared) l.draft.bodies.items (bound_names l.scope) (exprs_of (expr_trees (drop l.e-index l.es))))
      ≡ formulas_of l.text (words_in l.draft.declared) l.draft.bodies.items (bound_names l.scope) (exprs_of (expr_trees l.es));
}

abbrev pub invariant-terms-loop-e : goal.invariant-terms-loop-e
invariant-terms-loop-e l = record {
  nests : ExprsNest (max_bound - length (bound_names l.scope)) (exprs_of (expr_trees (drop l.e-index l.es)));
  within : ExprsWithin (length l.text) (exprs_of (expr_trees (drop l.e-index l.es)));
  made : terms_then (map term l.all.items)
      (terms_of l.text (words_in l.draft.declared) l.draft.bodies.items (bound_names l.scope) (exprs_of (expr_trees (drop l.e-index l.es))))
      ≡ terms_of l.text (words_in l.draft.declared) l.draft.bodies.items (bound_names l.scope) (exprs_of (expr_trees l.es));
}

abbrev pub invariant-kept_terms-loop-e : goal.invariant-kept_terms-loop-e
invariant-kept_terms-loop-e l = record {
  left : l.left + l.e-index ≡ length l.es;
  nests : ExprsNest (max_bound - length (bound_names l.scope)) (exprs_of (expr_trees (drop l.e-index l.es)));
  within : ExprsWithin (length l.text) (exprs_of (expr_trees (drop l.e-index l.es)));
  made : terms_then (map term l.all.items)
      (kept (change_rel 0 l.body)
      (terms_of l.text (words_in l.draft.declared) l.draft.bodies.items (bound_names l.scope)
      (exprs_of (expr_trees (drop l.e-index l.es)))))
      ≡ kept (change_rel 0 l.body)
      (terms_of l.text (words_in l.draft.declared) l.draft.bodies.items (bound_names l.scope)
      (exprs_of (expr_trees l.es)));
}
