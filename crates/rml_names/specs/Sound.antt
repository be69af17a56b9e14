-- What holds of what every first part of a text declares, where its names and sorts are right.
use Rattle.std.specs.Prelude.{◌≡◌, ◌<◌, ◌≤◌, All, length}
use Rattle.fol_sig.specs.Arguments.{max_arguments}
use Rattle.fol_sig.specs.Tables.{AreSorts}
use Rattle.fol_sig.specs.Symbols.{symbols, AreSorted}
use Rattle.rml_names.specs.declared.meaning.Meaning.{Meaning}
use Rattle.rml_names.specs.declared.meaning.Meaning.TheVariants.{Bound, Relation, Function, Derived, Unknown}
use Rattle.rml_names.specs.Vocabulary.{Vocabulary, max_names, name_count}

-- each symbol has known sorts, and no more arguments than may be, and each thing has a name; nor are there more names
pub record IsSorted (v : Vocabulary) : Type 0 where
  pub sorted : AreSorted (symbols v.signature)
  pub derived_sorted : All (AreSorts v.signature.sorts) v.derived
  pub derived_short : All (λ ks. length ks ≤ max_arguments) v.derived
  pub sorts : length v.names.sorts ≡ v.signature.sorts
  pub relations : length v.names.relations ≡ length v.signature.relations
  pub functions : length v.names.functions ≡ length v.signature.functions
  pub derived : length v.derived_names ≡ length v.derived
  pub few : name_count v ≤ max_names

-- the symbol that is meant is declared
abbrev pub IsDeclared : Vocabulary → Meaning → Type 0
IsDeclared v (Bound i k) = Unit {0}
IsDeclared v (Relation r) = r < length v.signature.relations
IsDeclared v (Function f) = f < length v.signature.functions
IsDeclared v (Derived d) = d < length v.derived
IsDeclared v Unknown = Unit {0}
