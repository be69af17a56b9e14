use Rattle.std.proofs.Common.{◌≡◌, ◌-◌, ◌+◌, List, length, length-drop, drop, refl, sym, ap, ◌∙◌, subst, rules, arith}
use Rattle.fol_formula.specs.Syntax.{size_of}
use Rattle.fol_subst.specs.Replace.{change_rel}
use Rattle.fol_subst.specs.Kept.{kept, kept_one}
use Rattle.rml_elaborate.proofs.Tuples.{terms_counted}
use Rattle.rml_terms.specs.declared.tree.Expr.{Expr}
use Rattle.rml_terms.specs.Tree.{expr_tree, expr_trees, exprs_of}
use Rattle.rml_terms.specs.Shape.{ExprsNest}
use Rattle.rml_terms.specs.Within.{ExprsWithin}
use Rattle.rml_elaborate.specs.Formulas.{formula_of, formulas_of, term_of, terms_of}
use Rattle.rml_names.specs.Scopes.{bound_names, max_bound}
use Rattle.rml_names.specs.Drafts.{words_in}
use Rattle.rml_elaborate.proofs.Nesting.{nests_inside}
use Rattle.rml_elaborate.proofs.Turns.{exprs-drop, forms_turn, terms_turn}
use Rattle.rml_elaborate.proofs.formulas.+formula.Goals as goal

pub formulas-loop-e-preserved : goal.formulas-loop-e-preserved
formulas-loop-e-preserved t c =
    let h = c.loop-e.invariant in
    let step = exprs-drop c.args.es.now c.loop-e.e-index c.e-item.result c.loop-e-test.true c.e-item.is in
    record {
      nests = (subst (ExprsNest (max_bound - length (bound_names c.args.scope.now))) step h.nests).1;
      within = (subst (ExprsWithin (length c.args.text.now)) step h.within).1;
      made = forms_turn c.lists.ensures.forms
          (λ (es : List Expr). formulas_of c.args.text.now (words_in c.args.draft.now.declared) c.args.draft.now.bodies.items (bound_names c.args.scope.now)
          (exprs_of (expr_trees es))) c.args.es.now c.loop-e.e-index c.e-item.result
          (formula_of c.args.text.now (words_in c.args.draft.now.declared) c.args.draft.now.bodies.items (bound_names c.args.scope.now)
          (expr_tree c.e-item.result)) c.loop-e.all.items c.push.new.self.items c.in_ok-formula.field-0 _
          refl c.loop-e-test.true c.e-item.is c.in_ok-push.ensures.items c.in_ok-formula.ensures h.made;
    }

pub terms-loop-e-preserved : goal.terms-loop-e-preserved
terms-loop-e-preserved t c =
    let h = c.loop-e.invariant in
    let step = exprs-drop c.args.es.now c.loop-e.e-index c.e-item.result c.loop-e-test.true c.e-item.is in
    record {
      nests = (subst (ExprsNest (max_bound - length (bound_names c.args.scope.now))) step h.nests).1;
      within = (subst (ExprsWithin (length c.args.text.now)) step h.within).1;
      made = terms_turn c.lists.ensures.terms
          (λ (es : List Expr). terms_of c.args.text.now (words_in c.args.draft.now.declared) c.args.draft.now.bodies.items (bound_names c.args.scope.now)
          (exprs_of (expr_trees es))) c.args.es.now c.loop-e.e-index c.e-item.result
          (term_of c.args.text.now (words_in c.args.draft.now.declared) c.args.draft.now.bodies.items (bound_names c.args.scope.now)
          (expr_tree c.e-item.result)) c.loop-e.all.items c.push.new.self.items c.in_ok-term.field-0 _
          refl c.loop-e-test.true c.e-item.is c.in_ok-push.ensures.items c.in_ok-term.ensures h.made;
    }

pub quantified-boxed-requires : goal.quantified-boxed-requires
quantified-boxed-requires t c =
    let u = nests_inside c.args.q c.args.at c.args.b (expr_tree c.args.body.now) _ (bound_names c.args.scope.now)
    (bound_names c.inside-inner.result) c.inside-inner.ensures c.requires.nests in
    (search rules, (u.nests, (u.few, (c.requires.within.2, c.requires.sound))))

pub kept_terms-loop-e-preserved : goal.kept_terms-loop-e-preserved
kept_terms-loop-e-preserved t c =
    let h = c.loop-e.invariant in
    let text = c.args.text.now in
    let v = words_in c.args.draft.now.declared in
    let bodies = c.args.draft.now.bodies.items in
    let bs = bound_names c.args.scope.now in
    let change = change_rel 0 c.args.body.now in
    let es = c.args.es.now in
    let rest = drop (c.loop-e.e-index + 1) es in
    let step = exprs-drop es c.loop-e.e-index c.e-item.result c.loop-e-test.true c.e-item.is in
    let size : c.loop-e.left - 1 ≡ size_of (terms_of text v bodies bs (exprs_of (expr_trees rest))) =
    omega (arith, h.left, c.loop-e-test.true, length-drop (c.loop-e.e-index + 1) es)
    ∙ sym (terms_counted text v bodies bs rest) in
    let one = term_of text v bodies bs (expr_tree c.e-item.result) in
    record {
      left = omega (arith, h.left, c.loop-e-test.true);
      nests = (subst (ExprsNest (max_bound - length bs)) step h.nests).1;
      within = (subst (ExprsWithin (length text)) step h.within).1;
      made = terms_turn c.lists.ensures.terms
          (λ (es : List Expr). kept change (terms_of text v bodies bs (exprs_of (expr_trees es)))) es
          c.loop-e.e-index c.e-item.result
          (kept_one change (size_of (terms_of text v bodies bs (exprs_of (expr_trees rest)))) one)
          c.loop-e.all.items c.push.new.self.items c.in_ok-kept_term.field-0 _
          refl c.loop-e-test.true c.e-item.is c.in_ok-push.ensures.items
          (c.in_ok-kept_term.ensures ∙ ap (λ n. kept_one change n one) size) h.made;
    }
