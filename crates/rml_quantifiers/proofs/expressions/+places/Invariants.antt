use Rattle.std.proofs.Common.{◌≡◌, ◌++◌, drop}
use Rattle.rml_terms.specs.Tree.{expr_trees, exprs_of}
use Rattle.rml_quantifiers.specs.Quantifiers.{quantifiers_in_each}
use Rattle.rml_quantifiers.proofs.expressions.+places.Given as goal

abbrev pub invariant-add_quantifiers_each-loop-e : goal.invariant-add_quantifiers_each-loop-e
invariant-add_quantifiers_each-loop-e l =
    l.places.items ++ quantifiers_in_each l.all (exprs_of (expr_trees (drop l.e-index l.es))) ≡ l.initial.places.items
    ++ quantifiers_in_each l.all (exprs_of (expr_trees l.es))
