-- The names of a model that was read.
use Rattle.std.specs.Prelude.{◌≡◌, ℕ, true, List}
use Rattle.std.specs.List.{AllByRecursion}
use Rattle.rml_lex.specs.Bytes.{goes_on}
use Rattle.rml_command.specs.Models.{ModelTree}
use Rattle.rml_command.specs.declared.names.Names.{Names}
use Rattle.rml_front.specs.Texts.{IsModelOf}

-- letters, digits and `_`
abbrev pub IsWord : List ℕ → Type 0
IsWord name = AllByRecursion (λ b. goes_on b ≡ true) name

abbrev pub AreWords : List (List ℕ) → Type 0
AreWords names = AllByRecursion IsWord names

-- so is each name of each kind
pub record HasWords (names : Names) : Type 0 where
  pub sorts : AreWords names.sorts
  pub relations : AreWords names.relations
  pub functions : AreWords names.functions
  pub axioms : AreWords names.axioms
  pub conjectures : AreWords names.conjectures
  pub actions : AreWords names.actions

-- Each name of a text's model is made of letters, digits and `_`.
abbrev pub NamesAreWords : Type 0
NamesAreWords = (text : List ℕ) (m : ModelTree) → IsModelOf text m → HasWords m.names
