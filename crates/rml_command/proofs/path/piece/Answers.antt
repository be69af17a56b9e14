use Rattle.rml_command.proofs.RouteLists.{piece}
use Rattle.rml_command.proofs.path.piece.Goals as goal

pub returns-then-span : goal.returns-then-span
returns-then-span c = piece c.args.block.now c.args.span c.if-span.true (c.requires c.if-span.true)
