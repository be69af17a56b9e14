use Rattle.std.proofs.Common.{ap, ◌∙◌, map, string_bytes}
use Rattle.command_line.specs.Lines.{matched, bmc_by, bmc_line}
use Rattle.command_line.proofs.bmc.bmc.Goals as goal

pub returns-clause-line : goal.returns-clause-line
unfolding bmc_line
returns-clause-line c =
    c.bmc_of.ensures.line
    ∙ ap bmc_by
    (c.in_ok-matches.ensures ∙ ap (λ app. matched app (map (λ w. string_bytes w) c.args.words.now))
    c.in_ok-command.ensures)
