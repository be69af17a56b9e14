use Rattle.std.proofs.Common.{◌≡◌, ◌+◌, ◌++◌, ◌<◌, List, None, [], IfOk, length, sym, ap, subst, ◌∙◌, arith, append-nil}
use Rattle.std.proofs.Common.{append_assoc}
use Rattle.std.proofs.lemmas.List.{drop_all}
use Rattle.rml_syntax.specs.Tree.{command_tree}
use Rattle.branches.specs.declared.mark.Mark.{Mark}
use Rattle.branches.specs.declared.mark.Turn.TheVariants as turns
use Rattle.branches.specs.Search.{Adds, Found, found, behind, mark, along, along_block, along_each, count_through_block}
use Rattle.branches.proofs.Loops.{tree_of, trees_of, chosen, whole_choice}
use Rattle.branches.proofs.search.+along.Goals as goal

pub push_along-returns-then-left-through : goal.push_along-returns-then-left-through
push_along-returns-then-left-through t c =
    let at = c.in-Choose.at in
    let n = c.args.paths in
    let k = c.loop-branch.left in
    let i = c.loop-branch.index + 1 in
    let count = c.len-count.result in
    let b = c.branch-item.result in
    let new = c.push_branch-then-left-through.new.marks.items in
    let r = c.push_branch-then-left-through.result in
    let this = mark at (turns.Takes (record { number = i; count = count })) in
    let through : c.count_through_block-through.result ≡ count_through_block (tree_of b.items) n =
    c.count_through_block-through.ensures
    ∙ ap (λ cs. count_through_block (tree_of cs) n) c.deref-in-loop-branch.ensures.value in
    let below : k < count_through_block (tree_of b.items) n = omega (arith, through, c.if-left-through.true) in
    let counted : count ≡ length c.in-Choose.branches.items =
    omega (arith, c.len-count.ensures, c.in-Choose.branches.ok.0) in
    let is : behind this (along_block (tree_of c.deref-then-left-through.result.now) n k)
    ≡ along (command_tree c.args.command.now) n c.args.number =
    ap (λ cs. behind this (along_block (tree_of cs) n k)) c.deref-then-left-through.ensures.value
    ∙ sym (chosen at i count n k c.deref-branch-items.result.now c.loop-branch.branch-index b c.loop-branch-test.true
    c.branch-item.is below)
    ∙ c.loop-branch.invariant.2
    ∙ whole_choice c.args.command.now at c.in-Choose.branches c.deref-branch-items.result.now count n c.args.number
    c.in-Choose.is c.deref-branch-items.ensures.value counted in
    subst (λ (f : Found). IfOk r (Adds f c.args.marks.now.items new)) is
    (subst (λ (old : List Mark). IfOk r (Adds (behind this (along_block (tree_of c.deref-then-left-through.result.now) n
    k)) old new)) c.loop-branch.invariant.1 c.push_branch-then-left-through.ensures)

pub push_along-returns-after-loop-branch : goal.push_along-returns-after-loop-branch
push_along-returns-after-loop-branch t c =
    let at = c.in-Choose.at in
    let n = c.args.paths in
    let count = c.len-count.result in
    let bs = c.deref-branch-items.result.now in
    let counted : count ≡ length c.in-Choose.branches.items =
    omega (arith, c.len-count.ensures, c.in-Choose.branches.ok.0) in
    let is : found [] None ≡ along (command_tree c.args.command.now) n c.args.number =
    sym (ap (λ l. along_each at (c.loop-branch.index + 1) count (trees_of l) n c.loop-branch.left)
    (drop_all c.loop-branch.branch-index bs c.loop-branch-test.false))
    ∙ c.loop-branch.invariant.2
    ∙ whole_choice c.args.command.now at c.in-Choose.branches bs count n c.args.number c.in-Choose.is
    c.deref-branch-items.ensures.value counted in (
      c.loop-branch.invariant.1 ∙ sym (append-nil c.args.marks.now.items)
          ∙ ap (λ f. c.args.marks.now.items ++ f.marks) is,
      ap (λ f. f.next) is,
    )

pub push_branch-returns : goal.push_branch-returns
push_branch-returns t c =
    let old = c.args.marks.now.items in
    let new = c.push_along_block.new.marks.items in
    let this = mark c.args.at c.args.turn in
    let f = along_block (tree_of c.args.commands.now) c.args.paths c.args.number in
    subst (λ (ms : List Mark). IfOk c.push_along_block.result (λ next. (new ≡ ms) × (next ≡ f.next)))
    (ap (λ ms. ms ++ f.marks) c.in_ok-push.ensures.items ∙ append_assoc old this f.marks)
    c.push_along_block.ensures
