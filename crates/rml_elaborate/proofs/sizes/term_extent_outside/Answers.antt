use Rattle.rml_terms.specs.Tree.{expr_tree}
use Rattle.rml_elaborate.proofs.Nesting.{nests_outside}
use Rattle.rml_elaborate.proofs.sizes.term_extent_outside.Goals as goal

pub term_extent-requires-clause-nests : goal.term_extent-requires-clause-nests
term_extent-requires-clause-nests c = nests_outside (expr_tree c.args.e.now) c.requires.nests
