-- What is proved of the faults of a model.
use Rattle.std.specs.Prelude.{◌≡◌, ◌⊎◌, ℕ, ◌≤◌, []}
use Rattle.rml_lex.specs.declared.token.Fault.{Fault}
use Rattle.rml_command.specs.Models.{ModelTree, IsModel, ArePlacesWithin}
use Rattle.rml_command.specs.Fragment.{IsChecked}
use Rattle.rml_fragment.specs.Faults.{Breaks, HasLongBlock, IsFault}

-- A model has one fault or none. Where it has none, it is in the fragment and its blocks have few paths; and where it
-- is so, and its text lists no quantifier inside an `ite` or on the right of `:=`, it has none.
pub record FaultsAreExact : Type 0 where
  pub some : (m : ModelTree) → ((f : Fault) × IsFault m f) ⊎ ((f : Fault) → IsFault m f → ⊥)
  pub one : (m : ModelTree) (f g : Fault) → IsFault m f → IsFault m g → f ≡ g
  pub checked : (m : ModelTree) (f : Fault) → IsChecked m → m.places.quantifiers ≡ [] → IsFault m f → ⊥
  pub faultless : (m : ModelTree) → IsModel m → ((f : Fault) → IsFault m f → ⊥) → IsChecked m

-- Where neither phase gives a fault, the model can be checked.
abbrev pub PassedIsChecked : Type 0
PassedIsChecked =
    (m : ModelTree) → IsModel m → ((f : Fault) → Breaks m f → ⊥) → ((f : Fault) → HasLongBlock m f → ⊥) → IsChecked m

-- Where the places of a model are among n bytes, so is its fault.
abbrev pub FaultsStandInText : Type 0
FaultsStandInText = (m : ModelTree) (n : ℕ) (f : Fault) → ArePlacesWithin n m.places → IsFault m f → f.at ≤ n
