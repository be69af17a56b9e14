-- What holds of the model of a tree, and of the fault that its sizes have.
use Rattle.std.specs.Prelude.{◌≡◌, ℕ, List, Some, None}
use Rattle.rml_lex.specs.declared.token.Fault.{Fault}
use Rattle.rml_lex.specs.Tokens.{StandsBy}
use Rattle.rml_syntax.specs.Tree.{FileTree}
use Rattle.rml_syntax.specs.Shape.{IsShaped}
use Rattle.rml_syntax.specs.Within.{TreeWithin}
use Rattle.rml_command.specs.Models.{IsModel, ArePlacesWithin}
use Rattle.rml_names.specs.Drafts.{empty_draft}
use Rattle.rml_items.specs.Items.{fault_of}
use Rattle.rml_sorts.specs.Items.{draft_of, model_of, size_fault_of}
use Rattle.rml_sorts.specs.Sound.{IsSound}

-- symbols and sorts fit one another, each thing has a name and a place, and the rest that a model promises
abbrev pub ModelsAreWhole : Type 0
ModelsAreWhole = (text : List ℕ) (tree : FileTree) → IsShaped tree → fault_of text tree ≡ None
    → IsModel (model_of text tree)

-- so do those of the draft that becomes the model, and its derived relations have right sides that fit
abbrev pub DraftsAreSound : Type 0
DraftsAreSound = (text : List ℕ) (tree : FileTree) → IsShaped tree → fault_of text tree ≡ None
    → IsSound (draft_of text empty_draft tree.items)

-- the places of the model stand where the names and words of the tree do
abbrev pub PlacesStandInText : Type 0
PlacesStandInText = (text : List ℕ) (n : ℕ) (tree : FileTree) → TreeWithin n tree
    → ArePlacesWithin n (model_of text tree).places

-- so does a use in what is too large
abbrev pub SizeFaultStandsInText : Type 0
SizeFaultStandsInText = (text : List ℕ) (n : ℕ) (tree : FileTree) (f : Fault) → TreeWithin n tree
    → size_fault_of text tree ≡ Some f → StandsBy n f
