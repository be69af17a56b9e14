use Rattle.std.proofs.Common.{List, [], length, refl, ap, ◌∙◌, subst, arith}
use Rattle.fol_subst.specs.Extents.{one, beside, over}
use Rattle.fol_subst.specs.Templates.{forms_extent, term_extent}
use Rattle.rml_terms.specs.declared.tree.Expr.{Expr}
use Rattle.rml_terms.specs.Tree.{expr_tree, expr_trees, exprs_of}
use Rattle.rml_terms.specs.Shape.{ExprsNest, max_nesting}
use Rattle.rml_terms.specs.Within.{ExprsWithin}
use Rattle.rml_names.specs.Drafts.{words_in}
use Rattle.rml_elaborate.specs.Formulas.{term_of, terms_of}
use Rattle.rml_elaborate.specs.Updates.{equations}
use Rattle.rml_elaborate.proofs.Turns.{exprs-drop}
use Rattle.rml_elaborate.proofs.Extents.{none-beside, forms-small, extents_turn}
use Rattle.rml_elaborate.proofs.update_sizes.tuple_extent.Goals as goal

pub loop-e-init : goal.loop-e-init
loop-e-init c = record {
  nests = c.requires.nests;
  within = c.requires.within;
  small = omega arith;
  counted = none-beside _ (forms-small _);
}

pub loop-e-preserved : goal.loop-e-preserved
loop-e-preserved c =
    let h = c.loop-e.invariant in
    let text = c.args.text.now in
    let v = words_in c.args.draft.now.declared in
    let bodies = c.args.draft.now.bodies.items in
    let args = c.args.args.now in
    let step = exprs-drop args c.loop-e.e-index c.e-item.result c.loop-e-test.true c.e-item.is in
    let term = term_of text v bodies [] (expr_tree c.e-item.result) in
    record {
      nests = (subst (ExprsNest max_nesting) step h.nests).1;
      within = (subst (ExprsWithin (length text)) step h.within).1;
      small = let e = ap (λ z. z.count) c.beside-all.ensures in omega (arith, e);
      counted = extents_turn
          (λ (es : List Expr). forms_extent (equations (terms_of text v bodies [] (exprs_of (expr_trees es))))) args
          c.loop-e.e-index c.e-item.result (over (beside one (term_extent term))) c.loop-e.all _ _ refl
          c.loop-e-test.true c.e-item.is
          (c.beside-all.ensures
          ∙ ap (beside c.loop-e.all) (c.over-equation.ensures
          ∙ ap over (c.beside.ensures ∙ ap (beside one) c.term_extent_outside.ensures)))
          h.counted;
    }
