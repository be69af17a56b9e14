use Rattle.std.proofs.Common.{suc, sym, ap, ◌∙◌}
use Rattle.std.specs.Prelude.{slice_get}
use Rattle.base.specs.Lists.{numbered}
use Rattle.rml_command.specs.Goals.{goal_path, stage_paths}
use Rattle.rml_command.specs.declared.goal.About.TheVariants as about
use Rattle.show_walks.proofs.following.path_of.Goals as goal

pub returns-then-place-len : goal.returns-then-place-len
returns-then-place-len c =
    c.goal_law.ensures.fit.symbols_fit c.args.checked.now
    (record { stage = c.args.part.now.stage; path = suc c.saturating_sub-place.result; about = about.Abort })
    c.path.result
    c.model-checked.ensures.checked.model.fits
    (sym (ap (λ ps. slice_get ps c.saturating_sub-place.result) c.stage_paths-paths.ensures.paths) ∙ c.path.ensures)
