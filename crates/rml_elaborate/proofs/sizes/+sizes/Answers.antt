use Rattle.std.proofs.Common.{◌≡◌, ◌-◌, ◌+◌, List, length, length-drop, drop, refl, sym, ap, ◌∙◌, subst, rules, arith}
use Rattle.fol_formula.specs.Syntax.{size_of}
use Rattle.fol_subst.specs.Extents.{beside, put_in, places_form}
use Rattle.fol_subst.specs.Templates.{filled, form_extent, forms_extent, term_extent, terms_extent}
use Rattle.rml_terms.specs.declared.tree.Expr.{Expr}
use Rattle.rml_terms.specs.Tree.{expr_tree, expr_trees, exprs_of}
use Rattle.rml_terms.specs.Shape.{ExprsNest}
use Rattle.rml_terms.specs.Within.{ExprsWithin}
use Rattle.rml_elaborate.specs.Formulas.{formula_of, formulas_of, term_of, terms_of}
use Rattle.rml_names.specs.Scopes.{bound_names, max_bound}
use Rattle.rml_names.specs.Drafts.{words_in}
use Rattle.rml_elaborate.proofs.Nesting.{nests_inside}
use Rattle.rml_elaborate.proofs.Tuples.{terms_counted}
use Rattle.rml_elaborate.proofs.Turns.{exprs-drop}
use Rattle.rml_elaborate.proofs.Extents.{none-beside, forms-small, terms-small, extents_turn, filled_turn}
use Rattle.rml_elaborate.proofs.sizes.+sizes.Goals as goal

pub quantified_extent-formula_extent-requires : goal.quantified_extent-formula_extent-requires
quantified_extent-formula_extent-requires t c =
    let u = nests_inside c.args.q c.args.at c.args.b (expr_tree c.args.body.now) _ (bound_names c.args.scope.now)
    (bound_names c.inside-inner.result) c.inside-inner.ensures c.requires.nests in
    (search rules, (u.nests, (u.few, (c.requires.within.2, c.requires.sound))))

pub use_extent-loop-e-init : goal.use_extent-loop-e-init
use_extent-loop-e-init t c =
    let body = c.in-Some.body.now in
    let terms = terms_of c.args.text.now (words_in c.args.draft.now.declared) c.args.draft.now.bodies.items
    (bound_names c.args.scope.now) (exprs_of (expr_trees c.args.es.now)) in
    record {
      left = omega arith;
      nests = c.requires.nests;
      within = c.requires.within;
      counted = ap (λ z. filled body z terms) (c.extent-all.ensures ∙ sym (c.extent_laws.ensures.counts.form body))
          ∙ c.extent_laws.ensures.filled body terms;
    }

pub use_extent-loop-e-preserved : goal.use_extent-loop-e-preserved
use_extent-loop-e-preserved t c =
    let h = c.loop-e.invariant in
    let text = c.args.text.now in
    let v = words_in c.args.draft.now.declared in
    let bodies = c.args.draft.now.bodies.items in
    let bs = bound_names c.args.scope.now in
    let es = c.args.es.now in
    let rest = drop (c.loop-e.e-index + 1) es in
    let step = exprs-drop es c.loop-e.e-index c.e-item.result c.loop-e-test.true c.e-item.is in
    let size : c.loop-e.left - 1 ≡ size_of (terms_of text v bodies bs (exprs_of (expr_trees rest))) =
    omega (arith, h.left, c.loop-e-test.true, length-drop (c.loop-e.e-index + 1) es)
    ∙ sym (terms_counted text v bodies bs rest) in
    record {
      left = omega (arith, h.left, c.loop-e-test.true);
      nests = (subst (ExprsNest (max_bound - length bs)) step h.nests).1;
      within = (subst (ExprsWithin (length text)) step h.within).1;
      counted = filled_turn c.in-Some.body.now (λ (es : List Expr). terms_of text v bodies bs (exprs_of (expr_trees es))) es
          c.loop-e.e-index (c.loop-e.left - 1) c.e-item.result (term_of text v bodies bs (expr_tree c.e-item.result))
          c.loop-e.all _ _ refl c.loop-e-test.true c.e-item.is size
          (c.put_in-all.ensures ∙ ap (λ z. put_in c.loop-e.all z c.term_extent.result) c.places.ensures
          ∙ ap (put_in c.loop-e.all (places_form (c.loop-e.left - 1) c.in-Some.body.now)) c.term_extent.ensures)
          h.counted;
    }

pub formulas_extent-loop-e-init : goal.formulas_extent-loop-e-init
formulas_extent-loop-e-init t c = record {
  nests = c.requires.nests;
  within = c.requires.within;
  small = omega arith;
  counted = none-beside _ (forms-small _);
}

pub formulas_extent-loop-e-preserved : goal.formulas_extent-loop-e-preserved
formulas_extent-loop-e-preserved t c =
    let h = c.loop-e.invariant in
    let text = c.args.text.now in
    let v = words_in c.args.draft.now.declared in
    let bodies = c.args.draft.now.bodies.items in
    let bs = bound_names c.args.scope.now in
    let es = c.args.es.now in
    let step = exprs-drop es c.loop-e.e-index c.e-item.result c.loop-e-test.true c.e-item.is in
    record {
      nests = (subst (ExprsNest (max_bound - length bs)) step h.nests).1;
      within = (subst (ExprsWithin (length text)) step h.within).1;
      small = let e = ap (λ z. z.count) c.beside-all.ensures in omega (arith, e);
      counted = extents_turn
          (λ (es : List Expr). forms_extent (formulas_of text v bodies bs (exprs_of (expr_trees es)))) es c.loop-e.e-index
          c.e-item.result (form_extent (formula_of text v bodies bs (expr_tree c.e-item.result))) c.loop-e.all _ _ refl
          c.loop-e-test.true c.e-item.is
          (c.beside-all.ensures ∙ ap (beside c.loop-e.all) c.formula_extent.ensures) h.counted;
    }

pub terms_extent-loop-e-init : goal.terms_extent-loop-e-init
terms_extent-loop-e-init t c = record {
  nests = c.requires.nests;
  within = c.requires.within;
  small = omega arith;
  counted = none-beside _ (terms-small _);
}

pub terms_extent-loop-e-preserved : goal.terms_extent-loop-e-preserved
terms_extent-loop-e-preserved t c =
    let h = c.loop-e.invariant in
    let text = c.args.text.now in
    let v = words_in c.args.draft.now.declared in
    let bodies = c.args.draft.now.bodies.items in
    let bs = bound_names c.args.scope.now in
    let es = c.args.es.now in
    let step = exprs-drop es c.loop-e.e-index c.e-item.result c.loop-e-test.true c.e-item.is in
    record {
      nests = (subst (ExprsNest (max_bound - length bs)) step h.nests).1;
      within = (subst (ExprsWithin (length text)) step h.within).1;
      small = let e = ap (λ z. z.count) c.beside-all.ensures in omega (arith, e);
      counted = extents_turn
          (λ (es : List Expr). terms_extent (terms_of text v bodies bs (exprs_of (expr_trees es)))) es c.loop-e.e-index
          c.e-item.result (term_extent (term_of text v bodies bs (expr_tree c.e-item.result))) c.loop-e.all _ _ refl
          c.loop-e-test.true c.e-item.is
          (c.beside-all.ensures ∙ ap (beside c.loop-e.all) c.term_extent.ensures) h.counted;
    }
