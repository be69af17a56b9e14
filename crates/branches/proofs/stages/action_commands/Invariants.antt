use Rattle.std.proofs.Common.{◌≡◌, length, slice_get}
use Rattle.rml_syntax.specs.Tree.{item_trees}
use Rattle.branches.specs.Search.{actions_of}
use Rattle.branches.proofs.stages.action_commands.Given as goal

abbrev pub invariant-loop-rest : goal.invariant-loop-rest
invariant-loop-rest l =
    slice_get (actions_of (item_trees l.rest)) l.left ≡ slice_get (actions_of (item_trees l.items)) l.number

abbrev pub decreases-loop-rest : goal.decreases-loop-rest
decreases-loop-rest l = length l.rest
