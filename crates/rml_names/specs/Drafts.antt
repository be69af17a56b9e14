-- What the code keeps of the items so far, as plain data: what they declare, and the model that is built of them.
use Rattle.std.specs.Prelude.{ℕ, List, [], ◌++◌, map}
use Rattle.fol_formula.specs.Syntax.{FormTree}
use Rattle.rml_command.specs.View.{command}
use Rattle.rml_command.specs.Trees.{CommandTree, seq, no_commands}
use Rattle.rml_command.specs.Models.{ModelTree}
use Rattle.rml_command.specs.declared.names.Names.{Names}
use Rattle.rml_command.specs.declared.places.Places.{Places}
use Rattle.rml_names.specs.declared.declarations.NameTables.{NameTables}
use Rattle.rml_names.specs.declared.declarations.Declarations.{Declarations}
use Rattle.rml_names.specs.declared.draft.ListedAxioms.{ListedAxioms}
use Rattle.rml_names.specs.declared.draft.PlaceLists.{PlaceLists}
use Rattle.rml_names.specs.declared.draft.ModelDraft.{ModelDraft}
use Rattle.rml_names.specs.Vocabulary.{Vocabulary}
use Rattle.rml_names.specs.Growth.{empty_vocabulary}

-- the names of a model; those of derived relations are none of them
abbrev pub names_in : NameTables → Names
names_in t = record {
  sorts = t.sorts;
  relations = t.relations;
  functions = t.functions;
  axioms = t.axioms;
  conjectures = t.conjectures;
  actions = t.actions;
}

-- what is declared, as plain data
abbrev pub words_in : Declarations → Vocabulary
words_in d = record {
  signature = d.signature;
  names = names_in d.names;
  derived_names = d.names.derived;
  derived = d.derived.items;
}

-- ---- the model

-- the axioms of listed sorts, with the sorts' names and places
pub record ListedTree : Type 0 where
  pub names : List (List ℕ)
  pub sentences : List FormTree
  pub places : List ℕ

-- The parts of a model so far. The axioms of listed sorts stand apart until the end, since they stand before all
-- others; the right side of a derived relation is written out, with its parameters free, the last one 0.
pub record DraftTree : Type 0 where
  pub vocabulary : Vocabulary
  pub bodies : List FormTree
  pub listed : ListedTree
  pub axioms : List FormTree
  pub conjectures : List FormTree
  pub init : CommandTree
  pub actions : List CommandTree
  pub last : CommandTree
  pub places : Places

-- the parts before the first item: `init` and `final` are `skip`
abbrev pub empty_draft : DraftTree
empty_draft = record {
  vocabulary = empty_vocabulary;
  bodies = [];
  listed = record { names = []; sentences = []; places = [] };
  axioms = [];
  conjectures = [];
  init = seq no_commands;
  actions = [];
  last = seq no_commands;
  places = record {
    functions = [];
    axioms = [];
    conjectures = [];
    init = 0;
    actions = [];
    last = 0;
    conditions = [];
    quantifiers = [];
  };
}

-- the model of a draft: the axioms of listed sorts stand before the others
abbrev pub model_of_draft : DraftTree → ModelTree
model_of_draft d = record {
  signature = d.vocabulary.signature;
  names = record d.vocabulary.names { axioms = d.listed.names ++ d.vocabulary.names.axioms };
  axioms = d.listed.sentences ++ d.axioms;
  conjectures = d.conjectures;
  init = d.init;
  actions = d.actions;
  last = d.last;
  places = record d.places { axioms = d.listed.places ++ d.places.axioms };
}

abbrev pub places_in : PlaceLists → Places
places_in p = record {
  functions = p.functions.items;
  axioms = p.axioms.items;
  conjectures = p.conjectures.items;
  init = p.init;
  actions = p.actions.items;
  last = p.last;
  conditions = p.conditions.items;
  quantifiers = p.quantifiers.items;
}

abbrev pub listed_in : ListedAxioms → ListedTree
listed_in l = record { names = l.names.items; sentences = l.sentences.items; places = l.places.items }

-- the parts so far, as plain data
abbrev pub draft_in : ModelDraft → DraftTree
draft_in d = record {
  vocabulary = words_in d.declared;
  bodies = d.bodies.items;
  listed = listed_in d.listed;
  axioms = d.axioms.items;
  conjectures = d.conjectures.items;
  init = command d.init;
  actions = map command d.actions.items;
  last = command d.last;
  places = places_in d.places;
}
