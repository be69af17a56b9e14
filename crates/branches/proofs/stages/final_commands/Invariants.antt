use Rattle.std.proofs.Common.{◌≡◌, [], length}
use Rattle.rml_syntax.specs.Tree.{command_trees, item_trees}
use Rattle.branches.specs.Search.{last_final}
use Rattle.branches.proofs.stages.final_commands.Given as goal

abbrev pub invariant-loop-rest : goal.invariant-loop-rest
invariant-loop-rest l = last_final (command_trees l.found) (item_trees l.rest) ≡ last_final [] (item_trees l.items)

abbrev pub decreases-loop-rest : goal.decreases-loop-rest
decreases-loop-rest l = length l.rest
