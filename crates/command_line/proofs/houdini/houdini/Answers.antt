use Rattle.std.proofs.Common.{ap, ◌∙◌, map, string_bytes}
use Rattle.command_line.specs.Lines.{matched, houdini_by, houdini_line}
use Rattle.command_line.proofs.houdini.houdini.Goals as goal

pub returns-clause-line : goal.returns-clause-line
unfolding houdini_line
returns-clause-line c =
    c.houdini_of.ensures.line
    ∙ ap houdini_by
    (c.in_ok-matches.ensures ∙ ap (λ app. matched app (map (λ w. string_bytes w) c.args.words.now))
    c.in_ok-command.ensures)
