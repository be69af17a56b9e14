-- What is declared with one name more.
use Rattle.std.specs.Prelude.{ℕ, ◌+◌, List, [], ◌∷◌, ◌++◌, length}
use Rattle.fol_sig.specs.declared.Sort.{Sort}
use Rattle.rml_terms.specs.declared.tree.Name.{Name}
use Rattle.rml_names.specs.Vocabulary.{Vocabulary}
use Rattle.rml_names.specs.Meanings.{bytes_of}

abbrev pub empty_vocabulary : Vocabulary
empty_vocabulary = record {
  signature = record { sorts = 0; relations = []; functions = []; listed = [] };
  names = record { sorts = []; relations = []; functions = []; axioms = []; conjectures = []; actions = [] };
  derived_names = [];
  derived = [];
}

abbrev pub sort_of_number : ℕ → Sort
sort_of_number k = record { 0 = k }

module _ (text : List ℕ) where
  -- a sort, whose number is how many sorts there were
  abbrev pub with_sort : Vocabulary → Name → Vocabulary
  with_sort v name = record v {
    signature = record v.signature { sorts = v.signature.sorts + 1 };
    names = record v.names { sorts = v.names.sorts ++ bytes_of text name ∷ [] };
  }

  -- a relation, with its argument sorts
  abbrev pub with_relation : Vocabulary → Name → List ℕ → Vocabulary
  with_relation v name sorts = record v {
    signature = record v.signature { relations = v.signature.relations ++ sorts ∷ [] };
    names = record v.names { relations = v.names.relations ++ bytes_of text name ∷ [] };
  }

  -- a function, or a variable, which has no arguments
  abbrev pub with_function : Vocabulary → Name → List ℕ → ℕ → Vocabulary
  with_function v name from into = record v {
    signature = record v.signature { functions = v.signature.functions ++ (from, sort_of_number into) ∷ [] };
    names = record v.names { functions = v.names.functions ++ bytes_of text name ∷ [] };
  }

  -- a name of an element of a listed sort: a variable that no command may write
  abbrev pub with_element : Vocabulary → ℕ → Name → Vocabulary
  with_element v sort name = record v {
    signature = record v.signature {
      functions = v.signature.functions ++ ([], sort_of_number sort) ∷ [];
      listed = v.signature.listed ++ length v.signature.functions ∷ [];
    };
    names = record v.names { functions = v.names.functions ++ bytes_of text name ∷ [] };
  }

  -- the names of a sort's elements, in order
  abbrev pub with_elements : Vocabulary → ℕ → List Name → Vocabulary
  with_elements v sort [] = v
  with_elements v sort (name ∷ names) = with_elements (with_element v sort name) sort names

  -- the name of an axiom; what the axiom says is no part of this
  abbrev pub with_axiom : Vocabulary → Name → Vocabulary
  with_axiom v name = record v { names = record v.names { axioms = v.names.axioms ++ bytes_of text name ∷ [] } }

  abbrev pub with_conjecture : Vocabulary → Name → Vocabulary
  with_conjecture v name =
      record v { names = record v.names { conjectures = v.names.conjectures ++ bytes_of text name ∷ [] } }

  abbrev pub with_action : Vocabulary → Name → Vocabulary
  with_action v name = record v { names = record v.names { actions = v.names.actions ++ bytes_of text name ∷ [] } }

  -- a derived relation, with the sorts of its parameters
  abbrev pub with_definition : Vocabulary → Name → List ℕ → Vocabulary
  with_definition v name sorts = record v {
    derived_names = v.derived_names ++ bytes_of text name ∷ [];
    derived = v.derived ++ sorts ∷ [];
  }
