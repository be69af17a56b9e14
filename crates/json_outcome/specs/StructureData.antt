-- A structure as data. Elements are numbers from 0.
use Rattle.std.specs.Prelude.{ℕ, if◌then◌else◌, List, [], ◌∷◌, length, codes}
use Rattle.fol_sig.specs.Tables.{Tables, size_at, rel_at, fun_at}
use Rattle.fol_sig.specs.Tuples.{join_below, tuples}
use Rattle.std.specs.List.{flat_map}
use Rattle.fol_sig.specs.TupleSets.{has_tuple}
use Rattle.serde_json.specs.Data.{Data}
use Rattle.rml_command.specs.declared.names.Names.{Names}
use Rattle.fol_sig.specs.SymbolTables.{arguments_of}
use Rattle.told_states.specs.SymbolText.{relation_symbol, function_symbol}
use Rattle.fol_sig.specs.declared.symbol.Symbol.{Symbol}
use Rattle.fol_sig.specs.declared.symbol.Symbol.TheVariants as symbol
use Rattle.json_values.specs.Values.{list_data, number_data, numbers_data, object_of}
use Rattle.json_outcome.specs.GroupData.{name_data}
use Rattle.json_outcome.specs.declared.structure.Listed.{Listed}
use Rattle.json_outcome.specs.declared.structure.Listed.TheVariants as listed

-- {"at":[0],"is":1}
unfoldable pub value_data : List ℕ → ℕ → Data
value_data xs value = object_of ((codes "at", numbers_data xs) ∷ (codes "is", number_data value) ∷ [])

-- the tuple, if the relation is true of it; the tuple with the function's value
abbrev pub cell_data : Tables → Symbol → List ℕ → List Data
cell_data s (symbol.Relation r) xs = if rel_at s r.0 xs then numbers_data xs ∷ [] else []
cell_data s (symbol.Function f) xs = value_data xs (fun_at s f.0 xs) ∷ []

-- the tuples of which a relation is true, or the values of a function at each tuple, in lexicographic order
abbrev pub cells_data : Tables → Symbol → List Data
cells_data s q =
    flat_map (cell_data s q) (tuples s.sizes (arguments_of s q))

-- a tuple, where it is one of the given ones
abbrev pub member_data : List (List ℕ) → List ℕ → List Data
member_data xss xs = if has_tuple xss xs then numbers_data xs ∷ [] else []

-- those of a relation's sorts, in lexicographic order
abbrev pub members_data : Tables → Symbol → List (List ℕ) → List Data
members_data s q xss =
    flat_map (member_data xss) (tuples s.sizes (arguments_of s q))

-- a symbol's name, and its cells under this word
unfoldable pub symbol_data : Data → List ℕ → Data → Data
symbol_data name word cells = object_of ((word, cells) ∷ (codes "name", name) ∷ [])

-- {"name":"linked","tuples":[[0,1],[1,0]]}
abbrev pub relation_data : Names → Tables → ℕ → Data
relation_data names s r =
    symbol_data (name_data names.relations r) (codes "tuples") (list_data (cells_data s (relation_symbol r)))

-- {"name":"next","values":[..]}; a variable is a function without arguments, and has one value, at []
abbrev pub function_data : Names → Tables → ℕ → Data
function_data names s f =
    symbol_data (name_data names.functions f) (codes "values") (list_data (cells_data s (function_symbol f)))

-- {"name":"node","size":2}
unfoldable pub sort_data : Names → ℕ → ℕ → Data
sort_data names k size = object_of ((codes "name", name_data names.sorts k) ∷ (codes "size", number_data size) ∷ [])

-- how many sorts, relations or functions there are, and the one of this number
abbrev pub count_of : Tables → Listed → ℕ
count_of s listed.Sorts = length s.sizes
count_of s listed.Relations = length s.relations
count_of s listed.Functions = length s.functions

-- a sort with its size, or a relation or function with its cells
abbrev pub item_data : Names → Tables → Listed → ℕ → Data
item_data names s listed.Sorts k = sort_data names k (size_at s k)
item_data names s listed.Relations r = relation_data names s r
item_data names s listed.Functions f = function_data names s f

-- all of them, in order
abbrev pub items_data : Names → Tables → Listed → Data
items_data names s l = list_data (join_below (count_of s l) (λ k. item_data names s l k ∷ []))

-- {"sorts":[..],"relations":[..],"functions":[..]}
unfoldable pub structure_data : Names → Tables → Data
structure_data names s =
    object_of ((codes "sorts", items_data names s listed.Sorts)
    ∷ (codes "relations", items_data names s listed.Relations)
    ∷ (codes "functions", items_data names s listed.Functions) ∷ [])
