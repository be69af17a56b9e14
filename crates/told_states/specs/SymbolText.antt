-- Relations and functions, and the cells of their tables.
use Rattle.std.specs.Prelude.{ℕ, Bool, true, false, List, [], ◌∷◌, ◌++◌, length}
use Rattle.std.specs.List.{flat_map}
use Rattle.fol_sig.specs.declared.symbol.Symbol.{Symbol}
use Rattle.fol_sig.specs.declared.symbol.Symbol.TheVariants as symbol
use Rattle.fol_sig.specs.Tables.{Tables}
use Rattle.fol_sig.specs.SymbolTables.{arguments_of}
use Rattle.fol_sig.specs.Tuples.{join_below, tuples}
use Rattle.rml_command.specs.declared.names.Names.{Names}
use Rattle.rml_report.specs.Words.{name_at}

abbrev pub symbol_name : Names → Symbol → List ℕ
symbol_name names (symbol.Relation r) = name_at names.relations r.0
symbol_name names (symbol.Function f) = name_at names.functions f.0

-- a variable is a function without arguments
abbrev pub is_variable : Symbol → List ℕ → Bool
is_variable (symbol.Relation r) ks = false
is_variable (symbol.Function f) [] = true
is_variable (symbol.Function f) (k ∷ ks) = false

abbrev pub relation_symbol : ℕ → Symbol
relation_symbol r = symbol.Relation (record { 0 = r })

-- a function or variable, by its number
abbrev pub function_symbol : ℕ → Symbol
function_symbol f = symbol.Function (record { 0 = f })

-- all relations in order, and then all functions
abbrev pub symbols_of : Tables → List Symbol
symbols_of s =
    join_below (length s.relations) (λ r. relation_symbol r ∷ [])
    ++ join_below (length s.functions) (λ f. function_symbol f ∷ [])

-- a text for each cell of a symbol, and for each cell of each symbol
abbrev pub cells_text : Tables → (Symbol → List ℕ → List ℕ) → Symbol → List ℕ
cells_text s text q = flat_map (text q) (tuples s.sizes (arguments_of s q))

-- the relations first
abbrev pub all_cells : Tables → (Symbol → List ℕ → List ℕ) → List ℕ
all_cells s text = flat_map (cells_text s text) (symbols_of s)
