use Rattle.rml_syntax.proofs.Texts.{some_reading, one_tree, one_fault, not_both}
use Rattle.rml_syntax.proofs.laws.one_tree_or_fault.Goals as goal

pub returns-clause-some : goal.returns-clause-some
returns-clause-some c = some_reading c.terms_are_read.ensures

pub returns-clause-tree : goal.returns-clause-tree
returns-clause-tree c = one_tree c.terms_are_read.ensures

pub returns-clause-fault : goal.returns-clause-fault
returns-clause-fault c = one_fault c.terms_are_read.ensures

pub returns-clause-not_both : goal.returns-clause-not_both
returns-clause-not_both c = not_both c.terms_are_read.ensures
