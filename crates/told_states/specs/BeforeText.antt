-- The structure in which an execution begins: how many elements each sort has, and what is true of them.
use Rattle.std.specs.Prelude.{ℕ, ◌&&◌, not, zero, suc, if◌then◌else◌, List, [], ◌++◌, length, codes}
use Rattle.std.specs.List.{flat_map}
use Rattle.std.specs.Fmt.{decimal}
use Rattle.fol_sig.specs.Tables.{Tables, function_at, size_at, rel_at, fun_at}
use Rattle.fol_sig.specs.Tuples.{join_below}
use Rattle.rml_command.specs.Models.{ModelTree}
use Rattle.rml_command.specs.declared.names.Names.{Names}
use Rattle.rml_report.specs.Words.{name_at}
use Rattle.told_states.specs.Labels.{Labels, is_called, labels_of}
use Rattle.told_states.specs.ElementText.{atom_text, label_text, line_text}
use Rattle.fol_sig.specs.SymbolTables.{arguments_of}
use Rattle.told_states.specs.SymbolText.{is_variable, symbols_of, cells_text}
use Rattle.fol_sig.specs.declared.symbol.Symbol.{Symbol}
use Rattle.fol_sig.specs.declared.symbol.Symbol.TheVariants as symbol

-- a comma, and linked(client0, server0)
unfoldable pub true_text : Labels → Tables → Symbol → List ℕ → List ℕ
true_text l s q xs = codes ", " ++ atom_text l s q xs

-- a comma, and next(node0) = node1
abbrev pub value_text : Labels → Tables → Symbol → List ℕ → ℕ → ℕ → List ℕ
value_text l s q xs k x = true_text l s q xs ++ codes " = " ++ label_text l k x

-- a tuple of which a relation is true; a tuple of a function with the value there
abbrev pub cell_text : Labels → Tables → Symbol → List ℕ → List ℕ
cell_text l s (symbol.Relation r) xs = if rel_at s r.0 xs then true_text l s (symbol.Relation r) xs else []
cell_text l s (symbol.Function f) xs =
    value_text l s (symbol.Function f) xs (function_at s f.0).into (fun_at s f.0 xs)

-- of a relation the atoms that are true, of a function or variable each value, each behind a comma
abbrev pub facts_text : Labels → Tables → Symbol → List ℕ
facts_text l s q = cells_text s (cell_text l s) q

-- a relation has a line of its own, and so has a function with arguments
unfoldable pub symbol_line : Labels → Tables → Symbol → List ℕ
symbol_line l s q =
    if is_variable q (arguments_of s q) then [] else line_text (codes "    ") (facts_text l s q)

-- the variables, which have none, are told in one, but for those by which elements are called
unfoldable pub variable_text : Labels → Tables → Symbol → List ℕ
variable_text l s q = if is_variable q (arguments_of s q) && not (is_called l q) then facts_text l s q else []

-- the relations, the functions, the variables
unfoldable pub structure_text : Labels → Tables → List ℕ
structure_text l s =
    flat_map (symbol_line l s) (symbols_of s) ++ line_text (codes "    ") (flat_map (variable_text l s) (symbols_of s))

-- a colon before the first, a comma before each other
abbrev pub separator : ℕ → List ℕ
separator zero = codes ": "
separator (suc k) = codes ", "

-- so many elements, and the name of their sort
unfoldable pub sort_text : Names → ℕ → ℕ → List ℕ
sort_text names k size = separator k ++ decimal size ++ codes " " ++ name_at names.sorts k

-- the line "  before: 2 client, 1 server", and below it the structure, its elements by their names
unfoldable pub before_text : ModelTree → Tables → List ℕ
before_text m s =
    codes "  before" ++ join_below (length s.sizes) (λ k. sort_text m.names k (size_at s k)) ++ codes "\n"
    ++ structure_text (labels_of m s) s
