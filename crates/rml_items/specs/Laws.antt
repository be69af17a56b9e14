-- What holds of the demands and of the fault of a tree's names and sorts.
use Rattle.std.specs.Prelude.{◌≡◌, ◌≤◌, ℕ, false, List, [], ◌∷◌, map, Some, None}
use Rattle.std.specs.List.{AllByRecursion}
use Rattle.rml_lex.specs.declared.token.Fault.{Fault}
use Rattle.rml_lex.specs.Tokens.{StandsBy}
use Rattle.rml_phrases.specs.Ascending.{Ascend}
use Rattle.rml_syntax.specs.Tree.{FileTree, ItemTree}
use Rattle.rml_syntax.specs.Within.{TreeWithin}
use Rattle.rml_syntax.specs.Places.{places_of_items}
use Rattle.rml_syntax.specs.declared.tree.Format.{Format}
use Rattle.rml_names.specs.Vocabulary.{Vocabulary}
use Rattle.rml_names.specs.Growth.{empty_vocabulary}
use Rattle.rml_names.specs.Sound.{IsSorted}
use Rattle.rml_sort_check.specs.Demands.{Demand, first_fault}
use Rattle.rml_items.specs.Items.{no_items, head_demands, body_demands, items_demands, words_with, fault_of}

-- the first fault of names and sorts stands where the names and words of the tree do
abbrev pub FaultStandsInText : Type 0
FaultStandsInText = (text : List ℕ) (n : ℕ) (tree : FileTree) (f : Fault) → TreeWithin n tree
    → fault_of text tree ≡ Some f → StandsBy n f

-- where the demands stand
abbrev pub demand_places : List Demand → List ℕ
demand_places ds = map (λ d. d.fault.at) ds

-- what a text demands stands in the order of its places
abbrev pub DemandsAscend : Type 0
DemandsAscend = (text : List ℕ) (tree : FileTree) → Ascend (places_of_items tree.items)
    → Ascend (demand_places (items_demands text tree.format no_items tree.items))

-- so no demand that is not met stands before the fault, which is the first of them
abbrev pub FaultIsLeast : Type 0
FaultIsLeast = (text : List ℕ) (tree : FileTree) (f : Fault) → Ascend (places_of_items tree.items)
    → fault_of text tree ≡ Some f
    → AllByRecursion (λ d. d.met ≡ false → f.at ≤ d.fault.at) (items_demands text tree.format no_items tree.items)

-- what is declared stays sorted with an item more whose demands are met
abbrev pub WordsStaySorted : Type 0
WordsStaySorted = (text : List ℕ) (format : Format) (v : Vocabulary) (item : ItemTree) → IsSorted v
    → first_fault (head_demands text v item) ≡ None → first_fault (body_demands text format v item) ≡ None
    → IsSorted (words_with text v item)

-- the demands of each of the items are met, each by what those before it declare
abbrev pub HaveMet : List ℕ → Format → Vocabulary → List ItemTree → Type 0
HaveMet text format v [] = Unit {0}
HaveMet text format v (item ∷ items) = (first_fault (head_demands text v item) ≡ None)
    × (first_fault (body_demands text format v item) ≡ None) × HaveMet text format (words_with text v item) items

-- so it is where a tree has no fault
abbrev pub DemandsAreMet : Type 0
DemandsAreMet = (text : List ℕ) (tree : FileTree) → fault_of text tree ≡ None
    → HaveMet text tree.format empty_vocabulary tree.items
