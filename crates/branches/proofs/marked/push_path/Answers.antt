use Rattle.std.proofs.Common.{◌++◌, sym, ap, ◌∙◌, arith, append-nil}
use Rattle.rml_syntax.specs.Tree.{command_trees, block_of}
use Rattle.branches.proofs.Searching.{numbered_found, none_numbered}
use Rattle.branches.proofs.marked.push_path.Goals as goal

pub returns-in_ok-push_along_block : goal.returns-in_ok-push_along_block
returns-in_ok-push_along_block c = λ text format d ok.
    c.in_ok-push_along_block.ensures.0
    ∙ ap (λ z. c.args.marks.now.items ++ z)
    (numbered_found text format d (block_of (command_trees c.args.commands.now)) c.args.path ok
    (omega (arith, c.if-path-eq0.false)) (omega (arith, c.ranges.path.fits))
    (omega (arith, c.count_through_block.ensures, c.if-number-count_through_block.true)))

pub returns-else-number-count_through_block : goal.returns-else-number-count_through_block
returns-else-number-count_through_block c = λ text format d ok.
    sym (ap (λ z. c.args.marks.now.items ++ z)
    (none_numbered text format d (block_of (command_trees c.args.commands.now)) c.args.path ok
    (omega (arith, c.if-path-eq0.false)) (omega (arith, c.ranges.path.fits))
    (omega (arith, c.count_through_block.ensures, c.if-number-count_through_block.false)))
    ∙ append-nil c.args.marks.now.items)
