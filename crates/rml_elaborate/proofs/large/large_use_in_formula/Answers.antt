use Rattle.rml_terms.specs.Tree.{expr_tree}
use Rattle.rml_elaborate.proofs.Nesting.{nests_outside}
use Rattle.rml_elaborate.proofs.large.large_use_in_formula.Goals as goal

pub large_formula_use-requires-clause-nests : goal.large_formula_use-requires-clause-nests
large_formula_use-requires-clause-nests c = nests_outside (expr_tree c.args.e.now) c.requires.nests
