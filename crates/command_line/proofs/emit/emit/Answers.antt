use Rattle.std.proofs.Common.{ap, ◌∙◌, map, string_bytes}
use Rattle.command_line.specs.Lines.{matched, emit_by, emit_line}
use Rattle.command_line.proofs.emit.emit.Goals as goal

pub returns-clause-line : goal.returns-clause-line
unfolding emit_line
returns-clause-line c =
    c.emit_of.ensures.line
    ∙ ap emit_by
    (c.in_ok-matches.ensures ∙ ap (λ app. matched app (map (λ w. string_bytes w) c.args.words.now))
    c.in_ok-command.ensures)
