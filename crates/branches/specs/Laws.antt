-- What is proved of marked paths.
use Rattle.std.specs.Prelude.{◌≡◌, ℕ, List, map}
use Rattle.rml_syntax.specs.Tree.{FileTree}
use Rattle.rml_syntax.specs.Within.{TreeWithin}
use Rattle.rml_command.specs.declared.goal.Stage.{Stage}
use Rattle.rml_command.specs.Goals.{stage_paths}
use Rattle.rml_sorts.specs.Items.{model_of}
use Rattle.branches.specs.Stages.{stage_marked, marks_of}
use Rattle.branches.specs.Within.{MarksWithin}

-- Without their marks, the marked paths of a stage are the paths of the model's stage, one for one and in order.
abbrev pub MarkedPathsAreThePaths : Type 0
MarkedPathsAreThePaths = (text : List ℕ) (tree : FileTree) (s : Stage)
    → map (λ p. p.primitives) (stage_marked text tree.items s) ≡ stage_paths (model_of text tree) s

-- Marks stand where the words of the tree do.
abbrev pub MarksStandInText : Type 0
MarksStandInText = (text : List ℕ) (tree : FileTree) (s : Stage) (path n : ℕ) → TreeWithin n tree
    → MarksWithin n (marks_of text tree.items s path)
