use Rattle.std.proofs.Common.{◌≡◌, ◌≤◌, ◌-◌, ◌+◌, List, length, drop}
use Rattle.fol_formula.specs.Syntax.{FormTrees, TermTrees}
use Rattle.rml_terms.specs.declared.tree.Expr.{Expr}
use Rattle.fol_subst.specs.Extents.{beside}
use Rattle.fol_subst.specs.Templates.{filled, form_extent, forms_extent, terms_extent}
use Rattle.rml_terms.specs.Tree.{expr_trees, exprs_of}
use Rattle.rml_terms.specs.Shape.{ExprsNest}
use Rattle.rml_terms.specs.Within.{ExprsWithin}
use Rattle.rml_elaborate.specs.Formulas.{formulas_of, terms_of}
use Rattle.fol_subst.specs.Templates.{instance}
use Rattle.rml_names.specs.Scopes.{bound_names, max_bound}
use Rattle.rml_names.specs.Drafts.{words_in}
use Rattle.rml_elaborate.proofs.sizes.+sizes.Given as goal

abbrev pub invariant-use_extent-loop-e : goal.invariant-use_extent-loop-e
invariant-use_extent-loop-e l =
    let terms : List Expr → TermTrees = λ es. terms_of l.text (words_in l.draft.declared) l.draft.bodies.items (bound_names l.scope)
    (exprs_of (expr_trees es)) in
    record {
      left : l.left + l.e-index ≡ length l.es;
      nests : ExprsNest (max_bound - length (bound_names l.scope)) (exprs_of (expr_trees (drop l.e-index l.es)));
      within : ExprsWithin (length l.text) (exprs_of (expr_trees (drop l.e-index l.es)));
      counted : filled l.body l.all (terms (drop l.e-index l.es)) ≡ form_extent (instance l.body (terms l.es));
    }

abbrev pub invariant-formulas_extent-loop-e : goal.invariant-formulas_extent-loop-e
invariant-formulas_extent-loop-e l =
    let formulas : List Expr → FormTrees = λ es. formulas_of l.text (words_in l.draft.declared) l.draft.bodies.items (bound_names l.scope)
    (exprs_of (expr_trees es)) in
    record {
      nests : ExprsNest (max_bound - length (bound_names l.scope)) (exprs_of (expr_trees (drop l.e-index l.es)));
      within : ExprsWithin (length l.text) (exprs_of (expr_trees (drop l.e-index l.es)));
      small : l.all.count ≤ 1000001;
      counted : beside l.all (forms_extent (formulas (drop l.e-index l.es))) ≡ forms_extent (formulas l.es);
    }

abbrev pub invariant-terms_extent-loop-e : goal.invariant-terms_extent-loop-e
invariant-terms_extent-loop-e l =
    let terms : List Expr → TermTrees = λ es. terms_of l.text (words_in l.draft.declared) l.draft.bodies.items (bound_names l.scope)
    (exprs_of (expr_trees es)) in
    record {
      nests : ExprsNest (max_bound - length (bound_names l.scope)) (exprs_of (expr_trees (drop l.e-index l.es)));
      within : ExprsWithin (length l.text) (exprs_of (expr_trees (drop l.e-index l.es)));
      small : l.all.count ≤ 1000001;
      counted : beside l.all (terms_extent (terms (drop l.e-index l.es))) ≡ terms_extent (terms l.es);
    }
