use Rattle.std.proofs.Common.{◌≡◌, ◌≤◌, List, [], length, drop}
use Rattle.fol_formula.specs.Syntax.{FormTrees}
use Rattle.rml_terms.specs.declared.tree.Expr.{Expr}
use Rattle.fol_subst.specs.Extents.{beside}
use Rattle.fol_subst.specs.Templates.{forms_extent}
use Rattle.rml_terms.specs.Tree.{expr_trees, exprs_of}
use Rattle.rml_terms.specs.Shape.{ExprsNest, max_nesting}
use Rattle.rml_terms.specs.Within.{ExprsWithin}
use Rattle.rml_elaborate.specs.Formulas.{terms_of}
use Rattle.rml_elaborate.specs.Updates.{equations}
use Rattle.rml_names.specs.Drafts.{words_in}
use Rattle.rml_elaborate.proofs.update_sizes.tuple_extent.Given as goal

abbrev pub invariant-loop-e : goal.invariant-loop-e
invariant-loop-e l =
    let tuple : List Expr → FormTrees = λ es. equations (terms_of l.text (words_in l.draft.declared) l.draft.bodies.items []
    (exprs_of (expr_trees es))) in
    record {
      nests : ExprsNest max_nesting (exprs_of (expr_trees (drop l.e-index l.args)));
      within : ExprsWithin (length l.text) (exprs_of (expr_trees (drop l.e-index l.args)));
      small : l.all.count ≤ 1000001;
      counted : beside l.all (forms_extent (tuple (drop l.e-index l.args))) ≡ forms_extent (tuple l.args);
    }
