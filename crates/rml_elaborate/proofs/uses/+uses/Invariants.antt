use Rattle.std.proofs.Common.{◌≡◌, ◌-◌, length, drop}
use Rattle.rml_terms.specs.Tree.{expr_trees, exprs_of}
use Rattle.rml_terms.specs.Shape.{ExprsNest}
use Rattle.rml_terms.specs.Within.{ExprsWithin}
use Rattle.rml_elaborate.specs.Sizes.{first_use_in_each}
use Rattle.rml_names.specs.Scopes.{bound_names, max_bound}
use Rattle.rml_names.specs.Drafts.{words_in}
use Rattle.rml_elaborate.proofs.uses.+uses.Given as goal

abbrev pub invariant-first_use_in_each-loop-e : goal.invariant-first_use_in_each-loop-e
invariant-first_use_in_each-loop-e l = record {
  nests : ExprsNest (max_bound - length (bound_names l.scope)) (exprs_of (expr_trees (drop l.e-index l.es)));
  within : ExprsWithin (length l.text) (exprs_of (expr_trees (drop l.e-index l.es)));
  left : first_use_in_each l.text (words_in l.known) (bound_names l.scope) (exprs_of (expr_trees (drop l.e-index l.es)))
      ≡ first_use_in_each l.text (words_in l.known) (bound_names l.scope) (exprs_of (expr_trees l.es));
}
