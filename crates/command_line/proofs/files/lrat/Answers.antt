use Rattle.std.proofs.Common.{ap, ◌∙◌, map, string_bytes}
use Rattle.command_line.specs.Lines.{matched, lrat_by, lrat_line}
use Rattle.command_line.proofs.files.lrat.Goals as goal

pub returns-clause-line : goal.returns-clause-line
unfolding lrat_line
returns-clause-line c =
    c.lrat_of.ensures.line
    ∙ ap lrat_by
    (c.in_ok-matches.ensures ∙ ap (λ app. matched app (map (λ w. string_bytes w) c.args.words.now))
    c.in_ok-command.ensures)
