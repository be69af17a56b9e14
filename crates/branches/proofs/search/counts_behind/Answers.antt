use Rattle.std.proofs.Common.{◌+◌, ◌-◌, ◌≡◌, ◌<◌, ◌++◌, [], ◌∷◌, length, take, sym, ap, ◌∙◌, arith, append_assoc}
use Rattle.rml_syntax.specs.Tree.{command_tree}
use Rattle.branches.specs.Search.{count_through, counts_behind}
use Rattle.branches.proofs.Loops.{tree_of, counts_turn}
use Rattle.branches.proofs.search.counts_behind.Goals as goal

pub loop-left-preserved : goal.loop-left-preserved
loop-left-preserved c =
    let xs = c.args.commands.now in
    let i = c.loop-left.left - 1 in
    let old = c.loop-left.counts.items in
    let x = c.index-commands-left.result in
    let lt : i < length xs = omega (arith, c.loop-left.invariant.0, c.loop-left-test.true) in
    let more : i + 1 ≡ c.loop-left.left = omega (arith, c.loop-left-test.true) in
    let n = count_through (command_tree x) c.loop-left.count in (
      omega (arith, lt),
      ap (λ k. c.push.new.self.items ++ counts_behind (tree_of (take i xs)) k) c.count_through-count.ensures
          ∙ ap (λ z. z ++ counts_behind (tree_of (take i xs)) n) c.in_ok-push.ensures.items
          ∙ append_assoc old (c.loop-left.count ∷ []) (counts_behind (tree_of (take i xs)) n)
          ∙ ap (λ z. old ++ z) (sym (counts_turn xs i x c.loop-left.count lt c.index-commands-left.is))
          ∙ ap (λ k. old ++ counts_behind (tree_of (take k xs)) c.loop-left.count) more
          ∙ c.loop-left.invariant.1,
    )
