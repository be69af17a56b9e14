use Rattle.rml_terms.specs.Tree.{expr_trees, exprs_of}
use Rattle.rml_elaborate.proofs.Nesting.{nest_outside}
use Rattle.rml_elaborate.proofs.uses.first_use_in_each_outside.Goals as goal

pub first_use_in_each-requires-clause-nests : goal.first_use_in_each-requires-clause-nests
first_use_in_each-requires-clause-nests c = nest_outside (exprs_of (expr_trees c.args.es.now)) c.requires.nests
