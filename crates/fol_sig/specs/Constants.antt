-- Structures with relations, or with functions without arguments, behind their own, and structures without their last
-- symbols.
use Rattle.std.specs.Prelude.{ℕ, List, [], ◌∷◌, ◌++◌, take}
use Rattle.fol_sig.specs.Tables.{Tables, RelationTable, FunctionTable}
use Rattle.fol_sig.specs.Symbols.{Symbols}

-- the table of a function without arguments: the sort of its value, and the value
abbrev pub constant_table : ℕ → ℕ → FunctionTable
constant_table k x = record { sorts = []; into = k; cells = x ∷ [] }

-- the tables of functions without arguments: of these sorts, with these elements
abbrev pub constant_tables : List ℕ → List ℕ → List FunctionTable
constant_tables [] xs = []
constant_tables (k ∷ ks) [] = []
constant_tables (k ∷ ks) (x ∷ xs) = constant_table k x ∷ constant_tables ks xs

-- the structure with these functions behind its own
abbrev pub with_constants : Tables → List ℕ → List ℕ → Tables
with_constants s ks xs = record {
  sizes = s.sizes;
  relations = s.relations;
  functions = s.functions ++ constant_tables ks xs;
}

-- the structure with relations of these tables behind its own
abbrev pub with_fresh_tables : Tables → List RelationTable → Tables
with_fresh_tables s ts = record s { relations = s.relations ++ ts }

-- the structure without the relations and functions behind those of the symbols
abbrev pub reduct : Symbols → Tables → Tables
reduct sig t = record {
  sizes = t.sizes;
  relations = take sig.relations t.relations;
  functions = take sig.functions t.functions;
}
