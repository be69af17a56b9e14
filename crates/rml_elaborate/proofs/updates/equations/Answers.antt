use Rattle.std.proofs.Common.{◌≡◌, ◌-◌, ◌+◌, ℕ, List, [], length, length-drop, drop, refl, sym, subst, ap, ◌∙◌, arith}
use Rattle.fol_formula.specs.Syntax.{equal, bound, size_of}
use Rattle.rml_terms.specs.declared.tree.Expr.{Expr}
use Rattle.rml_terms.specs.Tree.{expr_tree, expr_trees, exprs_of}
use Rattle.rml_terms.specs.Shape.{ExprsNest, max_nesting}
use Rattle.rml_terms.specs.Within.{ExprsWithin}
use Rattle.rml_elaborate.specs.Formulas.{term_of, terms_of}
use Rattle.rml_elaborate.specs.Updates.{equations}
use Rattle.rml_names.specs.Drafts.{words_in}
use Rattle.rml_elaborate.proofs.Tuples.{terms_counted}
use Rattle.rml_elaborate.proofs.Turns.{exprs-drop, forms_turn}
use Rattle.rml_elaborate.proofs.updates.equations.Goals as goal

pub loop-e-preserved : goal.loop-e-preserved
loop-e-preserved c =
    let h = c.loop-e.invariant in
    let text = c.args.text.now in
    let v = words_in c.args.draft.now.declared in
    let bodies = c.args.draft.now.bodies.items in
    let args = c.args.args.now in
    let rest = drop (c.loop-e.e-index + 1) args in
    let e = expr_tree c.e-item.result in
    let step = exprs-drop args c.loop-e.e-index c.e-item.result c.loop-e-test.true c.e-item.is in
    let left : c.loop-e.left - 1 ≡ length rest =
    omega (arith, h.left, c.loop-e-test.true, length-drop (c.loop-e.e-index + 1) args) in
    let place : c.loop-e.left - 1 ≡ size_of (terms_of text v bodies [] (exprs_of (expr_trees rest))) =
    left ∙ sym (terms_counted text v bodies [] rest) in
    record {
      left = omega (arith, h.left, c.loop-e-test.true);
      nests = (subst (ExprsNest max_nesting) step h.nests).1;
      within = (subst (ExprsWithin (length text)) step h.within).1;
      made = forms_turn c.lists.ensures.forms
          (λ (es : List Expr). equations (terms_of text v bodies [] (exprs_of (expr_trees es)))) args c.loop-e.e-index
          c.e-item.result
          (equal (bound (size_of (terms_of text v bodies [] (exprs_of (expr_trees rest))))) (term_of text v bodies [] e))
          c.loop-e.all.items c.push.new.self.items c.equation.result _
          refl c.loop-e-test.true c.e-item.is c.in_ok-push.ensures.items
          (c.equation.ensures ∙ ap (equal (bound (c.loop-e.left - 1))) c.in_ok-t.ensures
          ∙ ap (λ (k : ℕ). equal (bound k) (term_of text v bodies [] e)) place) h.made;
    }
