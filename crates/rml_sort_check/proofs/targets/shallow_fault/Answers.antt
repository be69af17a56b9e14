use Rattle.std.proofs.Common.{length}
use Rattle.rml_terms.specs.Tree.{expr_tree}
use Rattle.rml_names.specs.Scopes.{bound_names}
use Rattle.rml_sort_check.proofs.Nesting.{nests_below}
use Rattle.rml_sort_check.proofs.targets.shallow_fault.Goals as goal

pub expression_fault-requires-clause-nests : goal.expression_fault-requires-clause-nests
expression_fault-requires-clause-nests c =
    nests_below (length (bound_names c.args.scope.now)) (expr_tree c.args.e.now) c.requires.few c.requires.nests
