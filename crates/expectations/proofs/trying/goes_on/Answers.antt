use Rattle.std.proofs.Common.{inl}
use Rattle.rml_syntax.specs.Tree.{file_tree}
use Rattle.expectations.proofs.trying.goes_on.Goals as goal

pub returns-in-Ok : goal.returns-in-Ok
returns-in-Ok c = inl (file_tree c.in-Ok.tree, c.in-Ok.ensures.tree)
