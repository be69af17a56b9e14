-- The table of a symbol, whether it is a relation or a function.
use Rattle.std.specs.Prelude.{ℕ, ◌<◌, List, length}
use Rattle.fol_sig.specs.declared.symbol.Symbol.{Symbol}
use Rattle.fol_sig.specs.declared.symbol.Symbol.TheVariants as symbol
use Rattle.fol_sig.specs.Tables.{Tables, InRange, relation_at, function_at}

-- the sorts of a symbol's arguments
abbrev pub arguments_of : Tables → Symbol → List ℕ
arguments_of s (symbol.Relation r) = (relation_at s r.0).sorts
arguments_of s (symbol.Function f) = (function_at s f.0).sorts

-- the symbol is one of the structure
abbrev pub HasSymbol : Tables → Symbol → Type 0
HasSymbol s (symbol.Relation r) = r.0 < length s.relations
HasSymbol s (symbol.Function f) = f.0 < length s.functions

-- and the tuple one of its arguments
abbrev pub IsCell : Tables → Symbol → List ℕ → Type 0
IsCell s (symbol.Relation r) xs = (r.0 < length s.relations) × InRange s.sizes (relation_at s r.0).sorts xs
IsCell s (symbol.Function f) xs = (f.0 < length s.functions) × InRange s.sizes (function_at s f.0).sorts xs
