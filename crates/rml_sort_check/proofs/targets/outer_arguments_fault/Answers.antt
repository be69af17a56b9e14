use Rattle.std.proofs.Common.{length, ap, arith, ◌≤◌}
use Rattle.rml_terms.specs.Tree.{expr_trees, exprs_of}
use Rattle.rml_names.specs.Scopes.{bound_names}
use Rattle.rml_sort_check.proofs.Nesting.{nest_below}
use Rattle.rml_sort_check.proofs.targets.outer_arguments_fault.Goals as goal

pub arguments_fault-requires-clause-nests : goal.arguments_fault-requires-clause-nests
arguments_fault-requires-clause-nests c =
    let few : length (bound_names c.outside-outside.result) ≤ 8 = omega (arith, ap length c.outside-outside.ensures) in
    nest_below (length (bound_names c.outside-outside.result)) (exprs_of (expr_trees c.args.args.now)) few
    c.requires.nests
