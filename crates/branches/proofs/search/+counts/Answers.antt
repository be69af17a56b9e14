use Rattle.std.proofs.Common.{◌+◌, ◌-◌, ◌≡◌, ◌<◌, length, take, sym, ap, ◌∙◌, arith}
use Rattle.std.proofs.lemmas.List.{drop_all}
use Rattle.rml_syntax.specs.Tree.{block_trees, blocks_of}
use Rattle.rml_quantifiers.specs.Branches.{tree-choice}
use Rattle.branches.specs.Search.{count_through, count_through_block, count_through_each}
use Rattle.branches.proofs.Loops.{tree_of, count_turn}
use Rattle.branches.proofs.search.+counts.Goals as goal

pub count_through-returns-after-loop-branch : goal.count_through-returns-after-loop-branch
count_through-returns-after-loop-branch t c =
    let bs = c.deref-branch-items.result.now in
    sym (ap (λ z. count_through_each (blocks_of (block_trees z)) c.args.paths c.loop-branch.count)
    (drop_all c.loop-branch.branch-index bs c.loop-branch-test.false))
    ∙ c.loop-branch.invariant
    ∙ ap (λ z. count_through_each (blocks_of (block_trees z)) c.args.paths 0) c.deref-branch-items.ensures.value
    ∙ ap (λ x. count_through x c.args.paths)
    (sym (tree-choice c.args.command.now c.in-Choose.field-0 c.in-Choose.branches c.in-Choose.is))

pub count_through_block-loop-left-preserved : goal.count_through_block-loop-left-preserved
count_through_block-loop-left-preserved t c =
    let xs = c.args.commands.now in
    let i = c.loop-left.left - 1 in
    let lt : i < length xs = omega (arith, c.loop-left.invariant.0, c.loop-left-test.true) in
    let more : i + 1 ≡ c.loop-left.left = omega (arith, c.loop-left-test.true) in (
      omega (arith, lt),
      ap (count_through_block (tree_of (take i xs))) c.count_through-count.ensures
          ∙ sym (count_turn xs i c.index-commands-left.result c.loop-left.count lt c.index-commands-left.is)
          ∙ ap (λ k. count_through_block (tree_of (take k xs)) c.loop-left.count) more
          ∙ c.loop-left.invariant.1,
    )
