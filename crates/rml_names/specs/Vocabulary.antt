-- What the items of a text declare: all that a name can mean, and no formula.
use Rattle.std.specs.Prelude.{ℕ, ◌+◌, List, [], length, slice_index_or}
use Rattle.fol_sig.specs.Tables.{Declared}
use Rattle.rml_command.specs.declared.names.Names.{Names}

-- Symbols and names. A derived relation has no table, so it is no symbol of the signature: it has a name, and the sorts
-- of its parameters.
pub record Vocabulary : Type 0 where
  pub signature : Declared
  pub names : Names
  pub derived_names : List (List ℕ)
  pub derived : List (List ℕ)

-- the sorts of the parameters of a derived relation
abbrev pub derived_sorts : Vocabulary → ℕ → List ℕ
derived_sorts v d = slice_index_or v.derived d []

-- how many names a text may declare, of all kinds together
abbrev pub max_names : ℕ
max_names = 1000

-- how many are declared
abbrev pub name_count : Vocabulary → ℕ
name_count v = length v.names.sorts + length v.names.relations + length v.names.functions + length v.names.axioms
    + length v.names.conjectures + length v.names.actions + length v.derived_names
