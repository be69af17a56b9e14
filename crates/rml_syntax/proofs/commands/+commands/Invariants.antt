use Rattle.std.proofs.Common.{◌+◌, ◌*◌, length}
use Rattle.rml_lex.specs.declared.token.Kind.TheVariants.{Word, Sign}
use Rattle.rml_lex.specs.declared.token.Word.TheVariants.{Or}
use Rattle.rml_lex.specs.declared.token.Sign.TheVariants.{Semicolon}
use Rattle.rml_syntax.specs.Tree.{command_trees, block_trees}
use Rattle.rml_syntax.specs.Reading.{cmd_at, block_at, cmd_starts, inners}
use Rattle.rml_phrases.proofs.Loop.{Goes}
use Rattle.rml_phrases.proofs.Between.{Lists}
use Rattle.rml_syntax.proofs.commands.+commands.Given as goal

abbrev pub decreases-block : goal.decreases-block
decreases-block l = l.levels * 16 + 0

abbrev pub decreases-else_block : goal.decreases-else_block
decreases-else_block l = l.levels * 16 + 1

abbrev pub decreases-if_command : goal.decreases-if_command
decreases-if_command l = l.levels * 16 + 2

abbrev pub decreases-more_blocks : goal.decreases-more_blocks
decreases-more_blocks l = l.levels * 16 + 3

abbrev pub decreases-blocks : goal.decreases-blocks
decreases-blocks l = l.levels * 16 + 4

abbrev pub decreases-cmd : goal.decreases-cmd
decreases-cmd l = l.levels * 16 + 5

abbrev pub decreases-cmds : goal.decreases-cmds
decreases-cmds l = l.levels * 16 + 6

abbrev pub invariant-more_blocks-loop-next : goal.invariant-more_blocks-loop-next
invariant-more_blocks-loop-next l =
    Goes (Word Or) (block_at (inners l.levels)) (block_trees l.all.items) (block_trees l.fn.all.items) l.rest
    l.fn.tokens

abbrev pub decreases-more_blocks-loop-next : goal.decreases-more_blocks-loop-next
decreases-more_blocks-loop-next l = length l.rest

abbrev pub invariant-cmds-loop-alloc : goal.invariant-cmds-loop-alloc
invariant-cmds-loop-alloc l =
    Lists cmd_starts (Sign Semicolon) (cmd_at (inners l.levels)) (command_trees l.all.items) l.rest l.fn.tokens

abbrev pub decreases-cmds-loop-alloc : goal.decreases-cmds-loop-alloc
decreases-cmds-loop-alloc l = length l.rest
