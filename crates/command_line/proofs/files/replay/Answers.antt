use Rattle.std.proofs.Common.{ap, ◌∙◌, map, string_bytes}
use Rattle.command_line.specs.Lines.{matched, replay_by, replay_line}
use Rattle.command_line.proofs.files.replay.Goals as goal

pub returns-clause-line : goal.returns-clause-line
unfolding replay_line
returns-clause-line c =
    c.replay_of.ensures.line
    ∙ ap replay_by
    (c.in_ok-matches.ensures ∙ ap (λ app. matched app (map (λ w. string_bytes w) c.args.words.now))
    c.in_ok-command.ensures)
