use Rattle.std.proofs.Common.{◌≤◌, ◌-◌, length, arith}
use Rattle.rml_terms.specs.Tree.{expr_tree}
use Rattle.rml_names.specs.Scopes.{bound_names, max_bound}
use Rattle.rml_names.specs.Nesting.{nests_more}
use Rattle.rml_terms.specs.Shape.{max_nesting}
use Rattle.rml_elaborate.proofs.large.+large_formula_use_under.Goals as goal

pub large_formula_use-requires-clause-nests : goal.large_formula_use-requires-clause-nests
large_formula_use-requires-clause-nests t c =
    let more : max_nesting ≤ max_bound - length (bound_names c.args.scope.now) = omega (arith, c.requires.few) in
    nests_more (expr_tree c.args.e.now) max_nesting (max_bound - length (bound_names c.args.scope.now)) more
    c.requires.nests
