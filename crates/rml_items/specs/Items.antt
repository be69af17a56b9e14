-- What the items of a text declare, and what each demands of its names and sorts. Names are known from the end of their
-- item on, so each item is judged by what those before it declare.
use Rattle.std.specs.Prelude.{ℕ, suc, nat_lt, Bool, true, false, not, is_some, List, [], ◌∷◌, ◌++◌, map, Option}
use Rattle.rml_lex.specs.declared.token.Fault.{Fault}
use Rattle.rml_lex.specs.declared.fault_code.FaultCode.TheVariants as fault_code
use Rattle.rml_terms.specs.declared.tree.Name.{Name}
use Rattle.rml_terms.specs.declared.tree.Binder.{Binder}
use Rattle.rml_syntax.specs.declared.tree.Format.{Format}
use Rattle.rml_syntax.specs.Tree as syntax
use Rattle.rml_syntax.specs.Tree.{ItemTree, FileTree, Relation, Function, Variable, Axiom, Conjecture, Init, Action}
use Rattle.rml_syntax.specs.Tree.{Final, Define, block_of}
use Rattle.fol_sig.specs.Arguments.{max_arguments}
use Rattle.rml_names.specs.Vocabulary.{Vocabulary, max_names, name_count}
use Rattle.rml_names.specs.Growth.{empty_vocabulary, with_sort, with_relation, with_function, with_element}
use Rattle.rml_names.specs.Growth.{with_elements, with_axiom, with_conjecture, with_action, with_definition}
use Rattle.rml_names.specs.Meanings.{bytes_of, is_among, is_symbol, sort_by_name, sort_number}
use Rattle.rml_sort_check.specs.declared.wanted.Wanted.TheVariants.{Formula}
use Rattle.rml_sort_check.specs.Demands.{Demand, asks, first_fault, demands, block_demands}
use Rattle.rml_sort_check.specs.Demands.{definition_demands}

-- what some items declare, and which of the blocks that may stand once they have
pub record Standing : Type 0 where
  pub words : Vocabulary
  pub has_init : Bool
  pub has_last : Bool

-- before the first item
abbrev pub no_items : Standing
no_items = record { words = empty_vocabulary; has_init = false; has_last = false }

-- a declared name: its kind does not have it already, and there are fewer names than there may be
abbrev pub declares : Vocabulary → Bool → Name → List Demand
declares v taken name = asks name.start fault_code.DeclaredTwice (not taken)
    ∷ asks name.start fault_code.TooManyNames (nat_lt (name_count v) max_names) ∷ []

-- `init` or `final`: it does not stand a second time
abbrev pub stands_once : ℕ → Bool → List Demand
stands_once at taken = asks at fault_code.DeclaredTwice (not taken) ∷ []

module _ (text : List ℕ) where
  -- ---- demands

  -- the sort is declared
  abbrev pub sort_known : Vocabulary → Name → Demand
  sort_known v sort = asks sort.start fault_code.UnknownName (is_some (sort_by_name text v sort))

  -- argument sorts, the first of them as the i-th: known, and no more than there may be
  abbrev pub sort_demands : Vocabulary → ℕ → List Name → List Demand
  sort_demands v i [] = []
  sort_demands v i (sort ∷ sorts) =
      sort_known v sort ∷ asks sort.start fault_code.WrongArgumentCount (nat_lt i max_arguments)
      ∷ sort_demands v (suc i) sorts

  -- relations, functions, variables and derived relations have one name space
  abbrev pub declares_symbol : Vocabulary → Name → List Demand
  declares_symbol v name = declares v (is_symbol v (bytes_of text name)) name

  -- the names of a listed sort's elements: each is a symbol that is new behind those before it
  abbrev pub element_demands : Vocabulary → ℕ → List Name → List Demand
  element_demands v sort [] = []
  element_demands v sort (name ∷ names) =
      declares_symbol v name ++ element_demands (with_element text v sort name) sort names

  -- axioms and conjectures have one name space
  abbrev pub is_sentence : Vocabulary → List ℕ → Bool
  is_sentence v name = is_among (v.names.axioms ++ v.names.conjectures) name

  abbrev pub declares_sentence : Vocabulary → Name → List Demand
  declares_sentence v name = declares v (is_sentence v (bytes_of text name)) name

  -- sorts have a name space of their own
  abbrev pub declares_sort : Vocabulary → Name → List Demand
  declares_sort v name = declares v (is_among v.names.sorts (bytes_of text name)) name

  -- and so have actions
  abbrev pub declares_action : Vocabulary → Name → List Demand
  declares_action v name = declares v (is_among v.names.actions (bytes_of text name)) name

  -- what an item demands of the names that it declares, and of the sorts of symbols
  abbrev pub head_demands : Vocabulary → ItemTree → List Demand
  head_demands v (syntax.Sort name names) =
      declares_sort v name ++ element_demands (with_sort text v name) v.signature.sorts names
  head_demands v (Relation name sorts) = declares_symbol v name ++ sort_demands v 0 sorts
  head_demands v (Function name sorts sort) =
      declares_symbol v name ++ (sort_demands v 0 sorts ++ (sort_known v sort ∷ []))
  head_demands v (Variable name sort) = declares_symbol v name ++ (sort_known v sort ∷ [])
  head_demands v (Axiom name e) = declares_sentence v name
  head_demands v (Conjecture name e) = declares_sentence v name
  head_demands v (Init at cs) = []
  head_demands v (Action name cs) = declares_action v name
  head_demands v (Final at cs) = []
  head_demands v (Define name bs e) = declares_symbol v name

  -- `init` and `final` stand once
  abbrev pub once_demands : Standing → ItemTree → List Demand
  once_demands d (Init at cs) = stands_once at d.has_init
  once_demands d (Final at cs) = stands_once at d.has_last
  once_demands d _ = []

  -- and what it demands of what stands behind them
  abbrev pub body_demands : Format → Vocabulary → ItemTree → List Demand
  body_demands format v (syntax.Sort name names) = []
  body_demands format v (Relation name sorts) = []
  body_demands format v (Function name sorts sort) = []
  body_demands format v (Variable name sort) = []
  body_demands format v (Axiom name e) = demands text v [] Formula e
  body_demands format v (Conjecture name e) = demands text v [] Formula e
  body_demands format v (Init at cs) = block_demands text v format (block_of cs)
  body_demands format v (Action name cs) = block_demands text v format (block_of cs)
  body_demands format v (Final at cs) = block_demands text v format (block_of cs)
  body_demands format v (Define name bs e) = definition_demands text v bs e

  -- what an item demands, in the order of reading
  abbrev pub item_demands : Format → Standing → ItemTree → List Demand
  item_demands format d item = head_demands d.words item ++ (once_demands d item ++ body_demands format d.words item)

  -- ---- what is declared

  -- the sorts of a definition's parameters
  abbrev pub parameter_sorts : Vocabulary → List Binder → List ℕ
  parameter_sorts v bs = map (λ b. sort_number text v b.sort) bs

  -- with an item more
  abbrev pub words_with : Vocabulary → ItemTree → Vocabulary
  words_with v (syntax.Sort name names) = with_elements text (with_sort text v name) v.signature.sorts names
  words_with v (Relation name sorts) = with_relation text v name (map (sort_number text v) sorts)
  words_with v (Function name sorts sort) =
      with_function text v name (map (sort_number text v) sorts) (sort_number text v sort)
  words_with v (Variable name sort) = with_function text v name [] (sort_number text v sort)
  words_with v (Axiom name e) = with_axiom text v name
  words_with v (Conjecture name e) = with_conjecture text v name
  words_with v (Init at cs) = v
  words_with v (Action name cs) = with_action text v name
  words_with v (Final at cs) = v
  words_with v (Define name bs e) = with_definition text v name (parameter_sorts v bs)

  -- `init` has stood, with this item more
  abbrev pub has_init_with : Bool → ItemTree → Bool
  has_init_with had (Init at cs) = true
  has_init_with had _ = had

  -- and so `final`
  abbrev pub has_last_with : Bool → ItemTree → Bool
  has_last_with had (Final at cs) = true
  has_last_with had _ = had

  -- what some items declare, with one more
  abbrev pub with_item : Standing → ItemTree → Standing
  with_item d item = record {
    words = words_with d.words item;
    has_init = has_init_with d.has_init item;
    has_last = has_last_with d.has_last item;
  }

  -- ---- whole trees

  -- with these more, one after another
  abbrev pub with_items : Standing → List ItemTree → Standing
  with_items d [] = d
  with_items d (item ∷ items) = with_items (with_item d item) items

  -- what items demand, each by what those before it declare
  abbrev pub items_demands : Format → Standing → List ItemTree → List Demand
  items_demands format d [] = []
  items_demands format d (item ∷ items) = item_demands format d item
      ++ items_demands format (with_item d item) items

  -- the first demand of a tree's names and sorts that is not met
  abbrev pub fault_of : FileTree → Option Fault
  fault_of tree = first_fault (items_demands tree.format no_items tree.items)
