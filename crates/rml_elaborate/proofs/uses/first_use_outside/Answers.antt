use Rattle.rml_terms.specs.Tree.{expr_tree}
use Rattle.rml_elaborate.proofs.Nesting.{nests_outside}
use Rattle.rml_elaborate.proofs.uses.first_use_outside.Goals as goal

pub first_use-requires-clause-nests : goal.first_use-requires-clause-nests
first_use-requires-clause-nests c = nests_outside (expr_tree c.args.e.now) c.requires.nests
