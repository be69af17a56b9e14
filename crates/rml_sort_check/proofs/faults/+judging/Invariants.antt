use Rattle.std.proofs.Common.{◌≡◌, ◌-◌, length, drop}
use Rattle.fol_sig.specs.Tables.{numbers}
use Rattle.rml_terms.specs.Tree.{expr_trees, exprs_of}
use Rattle.rml_terms.specs.Shape.{ExprsNest}
use Rattle.rml_terms.specs.Within.{ExprsWithin}
use Rattle.rml_sort_check.specs.Demands.{first_fault, formula_demands, argument_demands}
use Rattle.rml_names.specs.Scopes.{bound_names, max_bound}
use Rattle.rml_names.specs.Drafts.{words_in}
use Rattle.rml_sort_check.proofs.faults.+judging.Given as goal

abbrev pub invariant-arguments_fault-loop-e : goal.invariant-arguments_fault-loop-e
invariant-arguments_fault-loop-e l = record {
  nests : ExprsNest (max_bound - length (bound_names l.scope)) (exprs_of (expr_trees (drop l.e-index l.args)));
  within : ExprsWithin (length l.text) (exprs_of (expr_trees (drop l.e-index l.args)));
  left : first_fault (argument_demands l.text (words_in l.known) (bound_names l.scope)
      (exprs_of (expr_trees (drop l.e-index l.args))) (numbers l.sorts))
      ≡ first_fault (argument_demands l.text (words_in l.known) (bound_names l.scope) (exprs_of (expr_trees l.args))
      (numbers l.initial.sorts));
}

abbrev pub invariant-formulas_fault-loop-e : goal.invariant-formulas_fault-loop-e
invariant-formulas_fault-loop-e l = record {
  nests : ExprsNest (max_bound - length (bound_names l.scope)) (exprs_of (expr_trees (drop l.e-index l.args)));
  within : ExprsWithin (length l.text) (exprs_of (expr_trees (drop l.e-index l.args)));
  left : first_fault (formula_demands l.text (words_in l.known) (bound_names l.scope)
      (exprs_of (expr_trees (drop l.e-index l.args))))
      ≡ first_fault (formula_demands l.text (words_in l.known) (bound_names l.scope) (exprs_of (expr_trees l.args)));
}
