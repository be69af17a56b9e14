-- Paths of a model's block fit its symbols.
use Rattle.std.specs.Prelude.{◌≡◌, ℕ, suc, List, Some, slice_get}
use Rattle.fol_sig.specs.Symbols.{symbols}
use Rattle.rml_command.specs.Trees.{PrimitiveTree}
use Rattle.rml_command.specs.Models.{ModelTree, FitsPath}
use Rattle.rml_command.specs.Fragment.{IsChecked}
use Rattle.rml_command.specs.Goals.{stage_paths}
use Rattle.rml_command.specs.Laws.{GoalPathsFit}
use Rattle.rml_command.specs.declared.goal.Stage.TheVariants as stage
use Rattle.rml_command.specs.declared.goal.About.TheVariants as about

pub fits_at : (m : ModelTree) (place : ℕ) (p : List PrimitiveTree) → GoalPathsFit → IsChecked m
    → slice_get (stage_paths m stage.Init) place ≡ Some p → FitsPath (symbols m.signature) p
fits_at m place p law checked at =
    law.symbols_fit m (record { stage = stage.Init; path = suc place; about = about.Abort }) p checked.model.fits at
