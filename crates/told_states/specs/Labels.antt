-- What the elements of a structure are called: an element of a listed sort by the name that stands for it, each other
-- one by the name of its sort and its number.
use Rattle.std.specs.Prelude.{ℕ, ◌==◌, ◌&&◌, Bool, false, if◌then◌else◌, List, [], ◌∷◌, Option, length, option_map}
use Rattle.std.specs.Prelude.{find}
use Rattle.std.specs.List.{list_any}
use Rattle.fol_sig.specs.declared.symbol.Symbol.{Symbol}
use Rattle.fol_sig.specs.declared.symbol.Symbol.TheVariants as symbol
use Rattle.fol_sig.specs.Tables.{Declared, Tables, function_at, fun_at, is_listed}
use Rattle.fol_sig.specs.SymbolTables.{arguments_of}
use Rattle.fol_sig.specs.Tuples.{join_below}
use Rattle.fol_sig.specs.declared.FunId.{FunId}
use Rattle.rml_command.specs.Models.{ModelTree}
use Rattle.rml_command.specs.declared.names.Names.{Names}
use Rattle.told_states.specs.SymbolText.{is_variable, function_symbol}
use Rattle.told_states.specs.declared.label.Label.{Label}

-- the names of a model's symbols, and a label for each name of a listed sort's element
pub record Labels : Type 0 where
  pub names : Names
  pub labels : List Label

-- a variable, and the element that it is
abbrev pub label_of : Tables → ℕ → Label
label_of s f = record {
  name = record { 0 = f };
  sort = record { 0 = (function_at s f).into };
  element = fun_at s f [];
}

-- whether it is a name of a listed sort's element
abbrev pub is_name : Declared → Tables → ℕ → Bool
is_name sig s f = is_listed sig f && is_variable (function_symbol f) (arguments_of s (function_symbol f))

-- the label of the function f in a list of one; none where f is not such a name
abbrev pub labels_at : Declared → Tables → ℕ → List Label
labels_at sig s f = if is_name sig s f then label_of s f ∷ [] else []

-- each name of a listed sort's element, with the element that it is in this structure
abbrev pub labels_of : ModelTree → Tables → Labels
labels_of m s = record { names = m.names; labels = join_below (length s.functions) (labels_at m.signature s) }

-- whether the function of this number names an element
abbrev pub is_among : List Label → ℕ → Bool
is_among labels f = list_any (λ l. l.name.0 == f) labels

-- whether an element is called by it
abbrev pub is_called : Labels → Symbol → Bool
is_called l (symbol.Relation r) = false
is_called l (symbol.Function f) = is_among l.labels f.0

-- the name that stands for an element, if one does
abbrev pub name_of : List Label → ℕ → ℕ → Option FunId
name_of labels k x = option_map (λ l. l.name) (find (λ l. (l.sort.0 == k) && (l.element == x)) labels)
