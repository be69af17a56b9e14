-- The nodes of a picture: the elements of a structure, in a frame for each sort, with what is so of each alone. All is
-- drawn of a structure beside another one, and in red where the other one differs.
use Rattle.std.specs.Prelude.{ℕ, ◌==◌, Bool, true, false, ◌&&◌, if◌then◌else◌, List, [], ◌∷◌, ◌++◌, length}
use Rattle.std.specs.Prelude.{codes}
use Rattle.std.specs.List.{flat_map}
use Rattle.std.specs.Fmt.{decimal}
use Rattle.fol_sig.specs.Tables.{Tables, relation_at, function_at, size_at, rel_at, fun_at}
use Rattle.fol_sig.specs.Tuples.{join_below}
use Rattle.rml_command.specs.declared.names.Names.{Names}
use Rattle.rml_report.specs.Words.{name_at, labelled}
use Rattle.told_states.specs.ElementText.{element_text}
use Rattle.told_states.specs.SymbolText.{symbols_of}
use Rattle.fol_sig.specs.declared.symbol.Symbol.{Symbol}
use Rattle.fol_sig.specs.declared.symbol.Symbol.TheVariants as symbol

-- the node of an element: a letter for the structure, the number of the sort, and the number of the element
unfoldable pub node_id : List ℕ → ℕ → ℕ → List ℕ
node_id letter k x = letter ++ decimal k ++ codes "_" ++ decimal x

-- what is so here has a line of the node's label, red where it is not so there
abbrev pub so_text : List ℕ → Bool → Bool → List ℕ
so_text name true true = labelled (codes "<br/>") name (codes "")
so_text name true false = labelled (codes "<br/><font color='red'>") name (codes "</font>")
so_text name false there = []

-- the one sort of these is k
abbrev pub is_only : List ℕ → ℕ → Bool
is_only [] k = false
is_only (j ∷ []) k = j == k
is_only (j ∷ i ∷ js) k = false

-- whether there are no sorts: a function without arguments is a variable
abbrev pub is_none : List ℕ → Bool
is_none [] = true
is_none (k ∷ ks) = false

-- a relation over this sort alone
abbrev pub relation_mark : Names → Tables → Tables → ℕ → ℕ → ℕ → List ℕ
relation_mark names s t k x r =
    if is_only (relation_at s r).sorts k
    then so_text (name_at names.relations r) (rel_at s r (x ∷ [])) (rel_at t r (x ∷ [])) else []

-- a variable of this sort
abbrev pub variable_mark : Names → Tables → Tables → ℕ → ℕ → ℕ → List ℕ
variable_mark names s t k x f =
    if is_none (function_at s f).sorts && ((function_at s f).into == k)
    then so_text (name_at names.functions f) (x == fun_at s f []) (x == fun_at t f []) else []

-- the mark of a symbol at the element x of sort k, if it can have one there
abbrev pub symbol_mark : Names → Tables → Tables → ℕ → ℕ → Symbol → List ℕ
symbol_mark names s t k x (symbol.Relation r) = relation_mark names s t k x r.0
symbol_mark names s t k x (symbol.Function f) = variable_mark names s t k x f.0

-- all marks of an element, those of relations first
abbrev pub marks_text : Names → Tables → Tables → ℕ → ℕ → List ℕ
marks_text names s t k x = flat_map (symbol_mark names s t k x) (symbols_of s)

-- an element with its marks
unfoldable pub node_line : List ℕ → Names → Tables → Tables → ℕ → ℕ → List ℕ
node_line letter names s t k x =
    codes "      " ++ node_id letter k x ++ codes " [label=<" ++ element_text names k x ++ marks_text names s t k x
    ++ codes ">];\n"

-- what a sort's frame begins with: its title is the sort's name
unfoldable pub frame_head : List ℕ → Names → ℕ → List ℕ
frame_head letter names k =
    codes "    subgraph cluster_" ++ letter ++ decimal k
    ++ labelled (codes " {\n      label=<") (name_at names.sorts k) (codes ">;\n")

-- the elements of a sort
unfoldable pub sort_frame : List ℕ → Names → Tables → Tables → ℕ → List ℕ
sort_frame letter names s t k =
    frame_head letter names k ++ join_below (size_at s k) (node_line letter names s t k) ++ codes "    }\n"

-- a frame for each sort, in order
abbrev pub frames_text : List ℕ → Names → Tables → Tables → List ℕ
frames_text letter names s t = join_below (length s.sizes) (sort_frame letter names s t)
