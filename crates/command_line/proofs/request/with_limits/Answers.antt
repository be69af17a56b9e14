use Rattle.std.proofs.Common.{ap₂, refl, ◌∙◌}
use Rattle.clap.specs.Words.{with_rule}
use Rattle.command_line.proofs.request.with_limits.Goals as goal

pub returns : goal.returns
returns c =
    let terms =
    c.in_ok-terms.ensures.shape c.number_option.ensures.local ∙ ap₂ with_rule refl c.number_option.ensures.rule in
    let ground = c.in_ok-ground.ensures.shape c.number_option-2.ensures.local
    ∙ ap₂ with_rule terms c.number_option-2.ensures.rule in
    c.in_ok-command.ensures.shape c.number_option-3.ensures.local ∙ ap₂ with_rule ground c.number_option-3.ensures.rule
