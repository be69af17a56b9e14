use Rattle.rml_terms.specs.Tree.{expr_tree}
use Rattle.rml_elaborate.proofs.Nesting.{nests_outside}
use Rattle.rml_elaborate.proofs.updates.term_outside.Goals as goal

pub term-requires-clause-nests : goal.term-requires-clause-nests
term-requires-clause-nests c = nests_outside (expr_tree c.args.e.now) c.requires.nests
