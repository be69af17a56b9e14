use Rattle.std.proofs.Common.{◌≡◌, [], ◌∷◌, ◌++◌, length, ap, sym, ◌∙◌, arith}
use Rattle.std.proofs.lemmas.List.{map_push}
use Rattle.std.proofs.lemmas.Result.{err_from_is_err_and}
use Rattle.rml_lex.specs.declared.token.Kind.TheVariants.{Word, Sign}
use Rattle.rml_lex.specs.declared.token.Word.TheVariants.{Or}
use Rattle.rml_lex.specs.declared.token.Sign.TheVariants.{Semicolon}
use Rattle.rml_syntax.specs.Tree.{command_tree, command_trees, block_trees}
use Rattle.rml_syntax.specs.Reading.{block_at, cmd_at, cmds_at, cmd_starts, inners}
use Rattle.rml_phrases.proofs.Loop.{starts_so, goes_on, ends, done}
use Rattle.rml_phrases.proofs.Between.{begun, item_goes_on, item_ends, item_is_last, all_done}
use Rattle.rml_syntax.proofs.Shorter.{cmd_shorter, block_shorter}
use Rattle.rml_syntax.proofs.commands.+commands.Goals as goal

pub more_blocks-loop-next-init : goal.more_blocks-loop-next-init
more_blocks-loop-next-init t c =
    starts_so (Word Or) (block_at (inners c.args.levels)) (block_trees c.args.all.items) c.args.tokens.now

pub more_blocks-returns-in_err-next : goal.more_blocks-returns-in_err-next
more_blocks-returns-in_err-next t c =
    let p = err_from_is_err_and c.from_residual.result c.from_residual.ensures.1 in
    rw (p.1, p.2) (ends (Word Or) (block_at (inners c.args.levels)) (block_trees c.args.all.items)
    (block_trees c.loop-next.all.items) c.args.tokens.now c.in_err-next.field-0.0 c.loop-next.rest.now
    c.in-Some.next.now c.loop-next.invariant c.in-Some.ensures c.in_err-next.ensures)

pub more_blocks-loop-next-smaller : goal.more_blocks-loop-next-smaller
more_blocks-loop-next-smaller t c =
    omega (
      arith,
      block_shorter c.terms_are_read.ensures c.args.levels c.in-Some.next.now _ c.in_ok-next.ensures,
      ap length
          c.in-Some.ensures.parts,
    )

pub more_blocks-loop-next-preserved : goal.more_blocks-loop-next-preserved
more_blocks-loop-next-preserved t c =
    let pushed : block_trees c.push.new.self.items ≡ block_trees c.loop-next.all.items ++ command_trees
    c.in_ok-next.next.items ∷ [] = rw c.in_ok-push.ensures.items (map_push _ c.loop-next.all.items c.in_ok-next.next) in
    rw pushed (goes_on (Word Or) (block_at (inners c.args.levels)) (block_trees c.args.all.items)
    (block_trees c.loop-next.all.items) c.args.tokens.now c.loop-next.rest.now c.in-Some.next.now
    (command_trees c.in_ok-next.next.items) c.in_ok-next.left.now c.loop-next.invariant c.in-Some.ensures
    c.in_ok-next.ensures
    (block_shorter c.terms_are_read.ensures c.args.levels c.in-Some.next.now _ c.in_ok-next.ensures))

pub more_blocks-returns : goal.more_blocks-returns
more_blocks-returns t c =
    done (Word Or) (block_at (inners c.args.levels)) (block_trees c.args.all.items)
    (block_trees c.loop-next.all.items) c.args.tokens.now c.loop-next.rest.now c.loop-next.invariant
    c.in_default.ensures

pub cmds-loop-alloc-init : goal.cmds-loop-alloc-init
cmds-loop-alloc-init t c =
    rw c.new-all.ensures.items (begun cmd_starts (Sign Semicolon) (cmd_at (inners c.args.levels)) c.args.tokens.now)

pub cmds-returns-in_err-next : goal.cmds-returns-in_err-next
unfolding cmds_at
cmds-returns-in_err-next t c =
    let p = err_from_is_err_and c.from_residual.result c.from_residual.ensures.1 in
    rw (p.1, p.2) (item_ends cmd_starts (Sign Semicolon) (cmd_at (inners c.args.levels))
    (command_trees c.loop-alloc.all.items) c.loop-alloc.rest.now c.args.tokens.now c.loop-alloc.invariant
    c.in_err-next.field-0.0 (sym c.begins_cmd.ensures ∙ c.loop-alloc-test.true) c.in_err-next.ensures)

pub cmds-returns-in_default : goal.cmds-returns-in_default
unfolding cmds_at
cmds-returns-in_default t c =
    let pushed : command_trees c.push.new.self.items ≡ command_trees c.loop-alloc.all.items ++ command_tree
    c.in_ok-next.next ∷ [] = rw c.in_ok-push.ensures.items (map_push _ c.loop-alloc.all.items c.in_ok-next.next) in
    rw pushed (item_is_last cmd_starts (Sign Semicolon) (cmd_at (inners c.args.levels))
    (command_trees c.loop-alloc.all.items) c.loop-alloc.rest.now c.args.tokens.now c.loop-alloc.invariant
    (command_tree c.in_ok-next.next) c.in_ok-next.left.now (sym c.begins_cmd.ensures ∙ c.loop-alloc-test.true)
    c.in_ok-next.ensures c.in_default.ensures)

pub cmds-loop-alloc-smaller : goal.cmds-loop-alloc-smaller
cmds-loop-alloc-smaller t c = omega (
  arith,
  cmd_shorter c.terms_are_read.ensures c.args.levels c.loop-alloc.rest.now _ c.in_ok-next.ensures,
  ap
      length c.in-Some.ensures.parts,
)

pub cmds-loop-alloc-preserved : goal.cmds-loop-alloc-preserved
cmds-loop-alloc-preserved t c =
    let pushed : command_trees c.push.new.self.items ≡ command_trees c.loop-alloc.all.items ++ command_tree
    c.in_ok-next.next ∷ [] = rw c.in_ok-push.ensures.items (map_push _ c.loop-alloc.all.items c.in_ok-next.next) in
    rw pushed (item_goes_on cmd_starts (Sign Semicolon) (cmd_at (inners c.args.levels))
    (command_trees c.loop-alloc.all.items) c.loop-alloc.rest.now c.args.tokens.now c.loop-alloc.invariant
    (command_tree c.in_ok-next.next) c.in_ok-next.left.now c.in-Some.next.now
    (sym c.begins_cmd.ensures ∙ c.loop-alloc-test.true) c.in_ok-next.ensures c.in-Some.ensures
    (cmd_shorter c.terms_are_read.ensures c.args.levels c.loop-alloc.rest.now _ c.in_ok-next.ensures))

pub cmds-returns : goal.cmds-returns
unfolding cmds_at
cmds-returns t c = all_done cmd_starts (Sign Semicolon) (cmd_at (inners c.args.levels))
    (command_trees c.loop-alloc.all.items) c.loop-alloc.rest.now c.args.tokens.now c.loop-alloc.invariant
    (sym c.begins_cmd.ensures ∙ c.loop-alloc-test.false)
