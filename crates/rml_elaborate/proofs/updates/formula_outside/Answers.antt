use Rattle.rml_terms.specs.Tree.{expr_tree}
use Rattle.rml_elaborate.proofs.Nesting.{nests_outside}
use Rattle.rml_elaborate.proofs.updates.formula_outside.Goals as goal

pub formula-requires-clause-nests : goal.formula-requires-clause-nests
formula-requires-clause-nests c = nests_outside (expr_tree c.args.e.now) c.requires.nests
