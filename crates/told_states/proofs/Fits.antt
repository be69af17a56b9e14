-- A path that is looked up has only symbols of the model's signature.
use Rattle.std.proofs.Common.{◌≡◌, ℕ, List, Option, Some, None, IfSome, sym}
use Rattle.base.specs.Lists.{numbered}
use Rattle.fol_sig.specs.Symbols.{symbols}
use Rattle.rml_command.specs.Trees.{PrimitiveTree}
use Rattle.rml_command.specs.Models.{ModelTree, FitsModel, FitsPath}
use Rattle.rml_command.specs.Goals.{stage_paths}
use Rattle.rml_command.specs.Laws.{GoalPathsFit}
use Rattle.rml_command.specs.declared.goal.Stage.{Stage}
use Rattle.rml_command.specs.declared.goal.About.TheVariants as about

pub fits_at : GoalPathsFit → (m : ModelTree) → FitsModel m → (stage : Stage) (n : ℕ) (o : Option (List PrimitiveTree))
    → o ≡ numbered (stage_paths m stage) n → IfSome o (FitsPath (symbols m.signature))
fits_at fit m fits stage n None is = tt
fits_at fit m fits stage n (Some path) is =
    fit.symbols_fit m (record { stage = stage; path = n; about = about.Abort }) path fits (sym is)
