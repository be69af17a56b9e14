use Rattle.std.proofs.Common.{length}
use Rattle.rml_syntax.specs.Tree.{item_trees}
use Rattle.rml_syntax.specs.Reading.{item_at, item_starts, inners}
use Rattle.rml_phrases.proofs.Runs.{Runs}
use Rattle.rml_syntax.proofs.items.all_items.Given as goal

abbrev pub invariant-loop-alloc : goal.invariant-loop-alloc
invariant-loop-alloc l =
    Runs (item_starts l.format) (item_at l.format (inners l.levels)) (item_trees l.all.items) l.rest l.fn.tokens

abbrev pub decreases-loop-alloc : goal.decreases-loop-alloc
decreases-loop-alloc l = length l.rest
