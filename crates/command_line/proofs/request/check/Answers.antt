use Rattle.std.proofs.Common.{ap, ◌∙◌, map, string_bytes}
use Rattle.command_line.specs.Lines.{matched, check_by, check_line}
use Rattle.command_line.proofs.request.check.Goals as goal

pub returns-clause-line : goal.returns-clause-line
unfolding check_line
returns-clause-line c =
    c.check_of.ensures.line
    ∙ ap check_by
    (c.in_ok-matches.ensures ∙ ap (λ app. matched app (map (λ w. string_bytes w) c.args.words.now))
    c.in_ok-command.ensures)
