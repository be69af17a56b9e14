-- The model of a text's tree, item by item, and what of it is too large to be written out.
use Rattle.std.specs.Prelude.{◌≡◌, ◌⊎◌, ℕ, true, false, List, [], ◌∷◌, ◌++◌, length, map, Option, Some, None}
use Rattle.fol_formula.specs.Syntax.{FormTree}
use Rattle.rml_lex.specs.declared.token.Fault.{Fault}
use Rattle.rml_terms.specs.declared.tree.Name.{Name}
use Rattle.rml_terms.specs.Places.{name_places}
use Rattle.rml_syntax.specs.Tree as syntax
use Rattle.rml_syntax.specs.Tree.{FileTree, ItemTree, Relation, Function, Variable, Axiom, Conjecture, Init, Action}
use Rattle.rml_syntax.specs.Tree.{Final, Define, block_of}
use Rattle.rml_command.specs.Trees.{CommandTree, seq}
use Rattle.rml_command.specs.Models.{ModelTree}
use Rattle.rml_command.specs.declared.places.Places.{Places}
use Rattle.rml_names.specs.Vocabulary.{Vocabulary}
use Rattle.rml_names.specs.Meanings.{bytes_of}
use Rattle.rml_names.specs.Drafts.{DraftTree, ListedTree, empty_draft, model_of_draft}
use Rattle.rml_sort_check.specs.Demands.{Demand, first_fault}
use Rattle.rml_elaborate.specs.Formulas.{formula_of}
use Rattle.rml_elaborate.specs.Updates.{definition}
use Rattle.rml_quantifiers.specs.Quantifiers.{quantifiers_in, quantifiers_of_block}
use Rattle.rml_items.specs.Items.{words_with, fault_of}
use Rattle.rml_sorts.specs.Commands.{commands_of, conditions_of_block}
use Rattle.base.specs.Lists.{count_from}
use Rattle.rml_sorts.specs.Listed.{listed_axiom}
use Rattle.rml_sorts.specs.Sizes.{item_sizes}

module _ (text : List ℕ) where
  -- ---- the model

  -- a function or variable more
  abbrev pub with_place : Places → ℕ → Places
  with_place places at = record places { functions = places.functions ++ at ∷ [] }

  -- the quantifiers of a sentence or a definition that stand where none may
  abbrev pub with_quantifiers : Places → List ℕ → Places
  with_quantifiers places more = record places { quantifiers = places.quantifiers ++ more }

  -- a block's conditions and quantifiers
  abbrev pub with_block : DraftTree → Places → List syntax.CommandTree → Places
  with_block d places cs = record places {
    conditions = places.conditions ++ conditions_of_block text d.vocabulary d.bodies (block_of cs);
    quantifiers = places.quantifiers ++ quantifiers_of_block (block_of cs);
  }

  -- a block as one command
  abbrev pub block_command : DraftTree → List syntax.CommandTree → CommandTree
  block_command d cs = seq (commands_of text d.vocabulary d.bodies (block_of cs))

  -- the axiom of a sort whose elements are listed
  abbrev pub with_listed_axiom : ListedTree → Name → FormTree → ListedTree
  with_listed_axiom listed name p = record {
    names = listed.names ++ bytes_of text name ∷ [];
    sentences = listed.sentences ++ p ∷ [];
    places = listed.places ++ name.start ∷ [];
  }

  -- a sort's number is that of the next sort, and its elements' names have those of the next functions; without
  -- names no axiom is added
  abbrev pub with_listed : DraftTree → Name → List Name → ListedTree
  with_listed d name [] = d.listed
  with_listed d name (one ∷ names) = with_listed_axiom d.listed name
      (listed_axiom d.vocabulary.signature.sorts
      (count_from (length d.vocabulary.signature.functions) (length (one ∷ names))))

  -- what an item adds beside what it declares
  abbrev pub parts_with : DraftTree → ItemTree → DraftTree
  parts_with d (syntax.Sort name names) = record d {
    listed = with_listed d name names;
    places = record d.places { functions = d.places.functions ++ name_places names };
  }
  parts_with d (Relation name sorts) = d
  parts_with d (Function name sorts sort) = record d { places = with_place d.places name.start }
  parts_with d (Variable name sort) = record d { places = with_place d.places name.start }
  parts_with d (Axiom name e) = record d {
    axioms = d.axioms ++ formula_of text d.vocabulary d.bodies [] e ∷ [];
    places = with_quantifiers (record d.places { axioms = d.places.axioms ++ name.start ∷ [] })
        (quantifiers_in false e);
  }
  parts_with d (Conjecture name e) = record d {
    conjectures = d.conjectures ++ formula_of text d.vocabulary d.bodies [] e ∷ [];
    places = with_quantifiers (record d.places { conjectures = d.places.conjectures ++ name.start ∷ [] })
        (quantifiers_in false e);
  }
  parts_with d (Init at cs) = record d {
    init = block_command d cs;
    places = with_block d (record d.places { init = at }) cs;
  }
  parts_with d (Action name cs) = record d {
    actions = d.actions ++ block_command d cs ∷ [];
    places = with_block d (record d.places { actions = d.places.actions ++ name.start ∷ [] }) cs;
  }
  parts_with d (Final at cs) = record d {
    last = block_command d cs;
    places = with_block d (record d.places { last = at }) cs;
  }
  parts_with d (Define name bs e) = record d {
    bodies = d.bodies ++ definition text d.vocabulary d.bodies bs e ∷ [];
    places = with_quantifiers d.places (quantifiers_in true e);
  }

  -- with an item more
  abbrev pub draft_with : DraftTree → ItemTree → DraftTree
  draft_with d item = record (parts_with d item) { vocabulary = words_with text d.vocabulary item }

  -- with these items more, one after another
  abbrev pub draft_of : DraftTree → List ItemTree → DraftTree
  draft_of d [] = d
  draft_of d (item ∷ items) = draft_of (draft_with d item) items

  -- the model of a tree
  abbrev pub model_of : FileTree → ModelTree
  model_of tree = model_of_draft (draft_of empty_draft tree.items)

  -- ---- what is too large

  -- what is too large in items, each by the draft of those before it
  abbrev pub items_sizes : DraftTree → List ItemTree → List Demand
  items_sizes d [] = []
  items_sizes d (item ∷ items) = item_sizes text d.vocabulary d.bodies item ++ items_sizes (draft_with d item) items

  -- the first use of a derived relation in a sentence or right side that is too large
  abbrev pub size_fault_of : FileTree → Option Fault
  size_fault_of tree = first_fault (items_sizes empty_draft tree.items)

  -- a fault of names and sorts, or else of what is too large
  abbrev pub IsRefusal : FileTree → Fault → Type 0
  IsRefusal tree f = (fault_of text tree ≡ Some f) ⊎ ((fault_of text tree ≡ None) × (size_fault_of tree ≡ Some f))
