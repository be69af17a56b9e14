use Rattle.std.proofs.Common.{◌≡◌, ◌-◌, length, sym, ap, ◌∙◌, subst, rules, None, inl, inr}
use Rattle.std.specs.Option.{option_or}
use Rattle.fol_sig.specs.Tables.{numbers}
use Rattle.rml_terms.specs.declared.tree.Expr.TheViews.{rolls-Ite, rolls-Equal, rolls-Implies, rolls-Iff}
use Rattle.rml_terms.specs.declared.tree.Expr.TheOpen as layer
use Rattle.rml_terms.specs.declared.tree.Expr.TheFolds.{fold-roll-Expr}
use Rattle.rml_terms.specs.Tree.{ExprTree, expr_step, ExprTrees, Ite, Equal, expr_tree}
use Rattle.rml_terms.specs.Shape.{ExprsNest}
use Rattle.rml_terms.specs.Within.{ExprsWithin}
use Rattle.rml_sort_check.specs.declared.wanted.Wanted.TheVariants.{Formula, Term}
use Rattle.rml_names.specs.Meanings.{term_sort}
use Rattle.rml_sort_check.specs.Demands.{first_fault, demands, second_sort}
use Rattle.rml_sort_check.specs.Judging.{compound_fault}
use Rattle.rml_names.specs.Scopes.{bound_names, max_bound}
use Rattle.rml_names.specs.Drafts.{words_in}
use Rattle.rml_sort_check.proofs.Judged.{exprs-drop, formulas-turn, formulas-stop, arguments-turn, arguments-stop}
use Rattle.rml_sort_check.proofs.Judged.{implies_fault, iff_fault, equal_fault, ite_fault, apply_fault}
use Rattle.rml_sort_check.proofs.faults.+judging.Goals as goal

pub formulas_fault-returns-in-Some : goal.formulas_fault-returns-in-Some
formulas_fault-returns-in-Some t c =
    formulas-stop c.args.text.now (words_in c.args.known.now) (bound_names c.args.scope.now) c.args.args.now
    c.loop-e.e-index c.e-item.result _
    c.in-Some.fault c.loop-e-test.true c.e-item.is (sym c.expression_fault.ensures ∙ c.in-Some.is)
    c.loop-e.invariant.left

pub formulas_fault-loop-e-preserved : goal.formulas_fault-loop-e-preserved
formulas_fault-loop-e-preserved t c =
    let h = c.loop-e.invariant in
    let step = exprs-drop c.args.args.now c.loop-e.e-index c.e-item.result c.loop-e-test.true c.e-item.is in
    record {
      nests = (subst (λ (xs : ExprTrees). ExprsNest (max_bound - length (bound_names c.args.scope.now)) xs) step
          h.nests).1;
      within = (subst (λ (xs : ExprTrees). ExprsWithin (length c.args.text.now) xs) step h.within).1;
      left = formulas-turn c.args.text.now (words_in c.args.known.now) (bound_names c.args.scope.now) c.args.args.now
          c.loop-e.e-index c.e-item.result _
          c.loop-e-test.true c.e-item.is (sym c.expression_fault.ensures ∙ c.in_default.is) h.left;
    }

pub arguments_fault-returns-in-Some : goal.arguments_fault-returns-in-Some
arguments_fault-returns-in-Some t c =
    arguments-stop c.args.text.now (words_in c.args.known.now) (bound_names c.args.scope.now) c.args.args.now
    c.loop-e.e-index c.e-item.result c.loop-e.sorts.now _
    c.in-Some.fault c.loop-e-test.true c.e-item.is c.in-len1-up.len_at_least
    (sym c.expression_fault.ensures ∙ c.in-Some.is) c.loop-e.invariant.left

pub arguments_fault-loop-e-preserved : goal.arguments_fault-loop-e-preserved
arguments_fault-loop-e-preserved t c =
    let h = c.loop-e.invariant in
    let step = exprs-drop c.args.args.now c.loop-e.e-index c.e-item.result c.loop-e-test.true c.e-item.is in
    record {
      nests = (subst (λ (xs : ExprTrees). ExprsNest (max_bound - length (bound_names c.args.scope.now)) xs) step
          h.nests).1;
      within = (subst (λ (xs : ExprTrees). ExprsWithin (length c.args.text.now) xs) step h.within).1;
      left = arguments-turn c.args.text.now (words_in c.args.known.now) (bound_names c.args.scope.now) c.args.args.now
          c.loop-e.e-index c.e-item.result c.loop-e.sorts.now _
          c.loop-e-test.true c.e-item.is c.in-len1-up.len_at_least
          (sym c.expression_fault.ensures ∙ c.in_default-expression_fault.is) h.left;
    }

pub application_fault-returns : goal.application_fault-returns
application_fault-returns t c =
    c.or.ensures
    ∙ apply_fault c.args.text.now (words_in c.args.known.now) (bound_names c.args.scope.now) c.args.wanted c.args.name
    c.args.args.now c.bytes.result.now c.meaning_from-meaning.result (numbers c.argument_sorts.result.now) _ _
    c.bytes.ensures c.meaning_from-meaning.ensures.value c.argument_sorts.ensures.value c.name_fault-named.ensures
    c.arguments_fault-applied.ensures

pub expression_fault-returns-in-Term : goal.expression_fault-returns-in-Term
expression_fault-returns-in-Term t c =
    let tree : expr_tree c.args.e.now
    ≡ Ite c.in-Ite.at (expr_tree c.in-Ite.c.value) (expr_tree c.in-Ite.a.value) (expr_tree c.in-Ite.b.value) =
    ap expr_tree (c.in-Ite.is ∙ sym (rolls-Ite c.in-Ite.at c.in-Ite.c c.in-Ite.a c.in-Ite.b))
    ∙ fold-roll-Expr ExprTree expr_step (layer.Ite c.in-Ite.at c.in-Ite.c c.in-Ite.a c.in-Ite.b) in
    let sort : c.second_sort-sort.result
    ≡ second_sort c.in-Term.expected
    (term_sort c.args.text.now (words_in c.args.known.now) (bound_names c.args.scope.now)
    (expr_tree c.in-Ite.a.value)) = search rules in
    let condition : c.expression_fault-condition.result
    ≡ first_fault
    (demands c.args.text.now (words_in c.args.known.now) (bound_names c.args.scope.now) Formula
    (expr_tree c.in-Ite.c.value)) = search rules in
    let first : c.expression_fault-first.result
    ≡ first_fault
    (demands c.args.text.now (words_in c.args.known.now) (bound_names c.args.scope.now) (Term c.in-Term.expected)
    (expr_tree c.in-Ite.a.value)) = search rules in
    let second : c.expression_fault-second.result
    ≡ first_fault
    (demands c.args.text.now (words_in c.args.known.now) (bound_names c.args.scope.now)
    (Term c.second_sort-sort.result) (expr_tree c.in-Ite.b.value)) = search rules in
    c.or-in-Term.ensures
    ∙ ap (option_or c.expression_fault-condition.result) c.or.ensures
    ∙ ite_fault c.args.text.now (words_in c.args.known.now) (bound_names c.args.scope.now) c.args.wanted
    c.in-Term.expected c.in-Ite.at (expr_tree c.args.e.now)
    (expr_tree c.in-Ite.c.value) (expr_tree c.in-Ite.a.value) (expr_tree c.in-Ite.b.value) c.second_sort-sort.result _ _
    _ c.in-Term.is tree sort condition first second

pub expression_fault-returns-in-Equal : goal.expression_fault-returns-in-Equal
expression_fault-returns-in-Equal t c =
    let tree : expr_tree c.args.e.now
    ≡ Equal c.in-Equal.at (expr_tree c.in-Equal.a.value) (expr_tree c.in-Equal.b.value) =
    ap expr_tree (c.in-Equal.is ∙ sym (rolls-Equal c.in-Equal.at c.in-Equal.a c.in-Equal.b))
    ∙ fold-roll-Expr ExprTree expr_step (layer.Equal c.in-Equal.at c.in-Equal.a c.in-Equal.b) in
    let sort : c.term_sort-sort.result
    ≡ term_sort c.args.text.now (words_in c.args.known.now) (bound_names c.args.scope.now)
    (expr_tree c.in-Equal.a.value) = search rules in
    let left : c.expression_fault-left.result
    ≡ first_fault
    (demands c.args.text.now (words_in c.args.known.now) (bound_names c.args.scope.now) (Term None)
    (expr_tree c.in-Equal.a.value)) = search rules in
    let right : c.expression_fault-right.result
    ≡ first_fault
    (demands c.args.text.now (words_in c.args.known.now) (bound_names c.args.scope.now)
    (Term c.term_sort-sort.result) (expr_tree c.in-Equal.b.value)) = search rules in
    c.compound_fault.ensures
    ∙ ap (compound_fault c.args.wanted c.in-Equal.at) c.or-in-Equal.ensures
    ∙ equal_fault c.args.text.now (words_in c.args.known.now) (bound_names c.args.scope.now) c.args.wanted c.in-Equal.at
    (expr_tree c.args.e.now)
    (expr_tree c.in-Equal.a.value) (expr_tree c.in-Equal.b.value) c.term_sort-sort.result _ _ tree sort left right

pub expression_fault-returns-in-Implies : goal.expression_fault-returns-in-Implies
expression_fault-returns-in-Implies t c =
    let n = c.in-Implies in
    let left : c.expression_fault-left-in-Implies.result
    ≡ first_fault
    (demands c.args.text.now (words_in c.args.known.now) (bound_names c.args.scope.now) Formula
    (expr_tree n.a.value)) = search rules in
    let right : c.expression_fault-right-in-Implies.result
    ≡ first_fault
    (demands c.args.text.now (words_in c.args.known.now) (bound_names c.args.scope.now) Formula
    (expr_tree n.b.value)) = search rules in
    let whole : compound_fault c.args.wanted n.at
    (option_or c.expression_fault-left-in-Implies.result c.expression_fault-right-in-Implies.result)
    ≡ first_fault (demands c.args.text.now (words_in c.args.known.now) (bound_names c.args.scope.now) c.args.wanted
    (expr_tree c.args.e.now)) =
    elim n.is [
      | inl is ↦ implies_fault c.args.text.now (words_in c.args.known.now) (bound_names c.args.scope.now) c.args.wanted
          n.at (expr_tree c.args.e.now) (expr_tree n.a.value) (expr_tree n.b.value) _ _
          (ap expr_tree (is ∙ sym (rolls-Implies n.at n.a n.b))
          ∙ fold-roll-Expr ExprTree expr_step (layer.Implies n.at n.a n.b)) left right
      | inr is ↦ iff_fault c.args.text.now (words_in c.args.known.now) (bound_names c.args.scope.now) c.args.wanted n.at
          (expr_tree c.args.e.now) (expr_tree n.a.value) (expr_tree n.b.value) _ _
          (ap expr_tree (is ∙ sym (rolls-Iff n.at n.a n.b))
          ∙ fold-roll-Expr ExprTree expr_step (layer.Iff n.at n.a n.b)) left right
    ] in
    c.compound_fault-in-Implies.ensures ∙ (ap (compound_fault c.args.wanted n.at) c.or-in-Implies.ensures ∙ whole)
