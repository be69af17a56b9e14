-- The lines of a structure.
use Rattle.std.specs.Prelude.{ℕ, ◌<◌, if◌then◌else◌, List, [], ◌∷◌, ◌++◌, length, codes, slice_index}
use Rattle.std.specs.Fmt.{decimal}
use Rattle.fol_sig.specs.declared.symbol.Symbol.{Symbol}
use Rattle.fol_sig.specs.declared.symbol.Symbol.TheVariants as symbol
use Rattle.fol_sig.specs.Tables.{Tables, size_at, rel_at, fun_at}
use Rattle.fol_sig.specs.SymbolTables.{arguments_of}
use Rattle.fol_sig.specs.Tuples.{join_below}
use Rattle.fol_sig.specs.TupleSets.{has_tuple}
use Rattle.rml_command.specs.declared.names.Names.{Names}
use Rattle.rml_report.specs.Words.{name_at, labelled, truth_text}

-- the texts of the tuples of these sorts, in lexicographic order, each behind the elements `before`
abbrev pub each_tuple : List ℕ → (List ℕ → List ℕ) → List ℕ → List ℕ → List ℕ
each_tuple sizes text [] before = text before
each_tuple sizes text (k ∷ ks) before =
    join_below (slice_index sizes k) (λ x. each_tuple sizes text ks (before ++ x ∷ []))

-- a comma and each number
unfoldable pub more_text : List ℕ → List ℕ
more_text [] = []
more_text (x ∷ xs) = codes "," ++ decimal x ++ more_text xs

-- the numbers, with a comma between them
abbrev pub listed_text : List ℕ → List ℕ
listed_text [] = []
listed_text (x ∷ xs) = decimal x ++ more_text xs

-- a blank, and a tuple as (0,1)
unfoldable pub tuple_text : List ℕ → List ℕ
tuple_text xs = codes " (" ++ listed_text xs ++ codes ")"

-- a tuple as (0,1), without the blank
unfoldable pub bare_text : List ℕ → List ℕ
bare_text xs = codes "(" ++ listed_text xs ++ codes ")"

-- a tuple, where it is one of these
abbrev pub member_text : List (List ℕ) → List ℕ → List ℕ
member_text xss xs = if has_tuple xss xs then bare_text xs else []

-- The table of a relation over these sorts that is true of these tuples: without arguments whether it is true, else the
-- tuples in braces, in lexicographic order.
abbrev pub set_text : List ℕ → List ℕ → List (List ℕ) → List ℕ
set_text sizes [] xss = truth_text (has_tuple xss [])
set_text sizes (k ∷ ks) xss = codes "{" ++ each_tuple sizes (member_text xss) (k ∷ ks) [] ++ codes "}"

-- a true tuple of a relation; each tuple of a function, with the value there
abbrev pub cell_text : Tables → Symbol → List ℕ → List ℕ
cell_text s (symbol.Relation r) xs = if rel_at s r.0 xs then tuple_text xs else []
cell_text s (symbol.Function f) xs = tuple_text xs ++ codes "->" ++ decimal (fun_at s f.0 xs)

-- the one value of a symbol without arguments
abbrev pub value_text : Tables → Symbol → List ℕ
value_text s (symbol.Relation r) = truth_text (rel_at s r.0 [])
value_text s (symbol.Function f) = decimal (fun_at s f.0 [])

-- the table of a symbol with arguments of these sorts: its one value behind a blank, or its cells tuple by tuple
abbrev pub values_text : Tables → Symbol → List ℕ → List ℕ
values_text s q [] = codes " " ++ value_text s q
values_text s q (k ∷ ks) = each_tuple s.sizes (cell_text s q) (k ∷ ks) []

-- the word and the name of a symbol; a function without arguments is a variable
abbrev pub symbol_label : Names → Symbol → List ℕ → List ℕ
symbol_label names (symbol.Relation r) ks = labelled (codes "    relation ") (name_at names.relations r.0) (codes ":")
symbol_label names (symbol.Function f) [] = labelled (codes "    variable ") (name_at names.functions f.0) (codes ":")
symbol_label names (symbol.Function f) (k ∷ ks) =
    labelled (codes "    function ") (name_at names.functions f.0) (codes ":")

-- the line of one symbol: its label, and its table in the structure
unfoldable pub symbol_line : Names → Tables → Symbol → List ℕ
symbol_line names s q = symbol_label names q (arguments_of s q) ++ values_text s q (arguments_of s q) ++ codes "\n"

abbrev pub relation_line : Names → Tables → ℕ → List ℕ
relation_line names s r = symbol_line names s (symbol.Relation (record { 0 = r }))

abbrev pub function_line : Names → Tables → ℕ → List ℕ
function_line names s f = symbol_line names s (symbol.Function (record { 0 = f }))

-- each relation, then each function and variable
unfoldable pub tables_text : Names → Tables → List ℕ
tables_text names s =
    join_below (length s.relations) (relation_line names s) ++ join_below (length s.functions) (function_line names s)

-- `sort NAME N`: the sort of this number with its size
unfoldable pub sort_line : Names → ℕ → ℕ → List ℕ
sort_line names k size = labelled (codes "    sort ") (name_at names.sorts k) (codes " ") ++ decimal size ++ codes "\n"

-- the sorts with their sizes
abbrev pub sorts_text : Names → Tables → List ℕ
sorts_text names s = join_below (length s.sizes) (λ k. sort_line names k (size_at s k))

-- each sort is one of these sizes, and P is so of each tuple of them behind these elements
abbrev pub EachTuple : List ℕ → (List ℕ → Type 0) → List ℕ → List ℕ → Type 0
EachTuple sizes P [] before = P before
EachTuple sizes P (k ∷ ks) before =
    (k < length sizes) × ((x : ℕ) → x < slice_index sizes k → EachTuple sizes P ks (before ++ x ∷ []))
