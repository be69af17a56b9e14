use Rattle.std.proofs.Common.{◌≡◌, ◌+◌, [], length, map, drop}
use Rattle.fol_formula.specs.Syntax.{forms_then}
use Rattle.fol_formula.specs.View.{form}
use Rattle.rml_terms.specs.Tree.{expr_trees, exprs_of}
use Rattle.rml_terms.specs.Shape.{ExprsNest, max_nesting}
use Rattle.rml_terms.specs.Within.{ExprsWithin}
use Rattle.rml_elaborate.specs.Formulas.{terms_of}
use Rattle.rml_elaborate.specs.Updates.{equations}
use Rattle.rml_names.specs.Drafts.{words_in}
use Rattle.rml_elaborate.proofs.updates.equations.Given as goal

abbrev pub invariant-loop-e : goal.invariant-loop-e
invariant-loop-e l = record {
  left : l.left + l.e-index ≡ length l.args;
  nests : ExprsNest max_nesting (exprs_of (expr_trees (drop l.e-index l.args)));
  within : ExprsWithin (length l.text) (exprs_of (expr_trees (drop l.e-index l.args)));
  made : forms_then (map form l.all.items)
      (equations (terms_of l.text (words_in l.draft.declared) l.draft.bodies.items [] (exprs_of (expr_trees (drop l.e-index l.args)))))
      ≡ equations (terms_of l.text (words_in l.draft.declared) l.draft.bodies.items [] (exprs_of (expr_trees l.args)));
}
