-- What is so of tuples of elements. A function's tuple has its value behind the arguments. A tuple of one is a mark at
-- its node and is not drawn again, one of two is an edge, and a longer one is a small node with an edge to each of its
-- elements; what is true of no elements at all is a small node alone.
use Rattle.std.specs.Prelude.{ℕ, ◌+◌, ◌==◌, Bool, true, false, not, if◌then◌else◌, List, [], ◌∷◌, ◌++◌, codes}
use Rattle.std.specs.Fmt.{decimal}
use Rattle.fol_sig.specs.Tables.{Tables, relation_at, function_at, rel_at, fun_at}
use Rattle.rml_command.specs.declared.names.Names.{Names}
use Rattle.told_states.specs.SymbolText.{symbol_name, all_cells}
use Rattle.fol_sig.specs.declared.symbol.Symbol.{Symbol}
use Rattle.fol_sig.specs.declared.symbol.Symbol.TheVariants as symbol
use Rattle.dot_graph.specs.NodeText.{node_id}

-- the attributes of what differs in the other structure; none of what does not
unfoldable pub colour_text : Bool → List ℕ
colour_text true = codes "color=red, fontcolor=red, "
colour_text false = []

-- an edge from one node to another, with a name at it
unfoldable pub edge_line : List ℕ → List ℕ → List ℕ → Bool → List ℕ
edge_line a b name changed =
    codes "    " ++ a ++ codes " -> " ++ b ++ codes " [" ++ colour_text changed ++ codes "label=<" ++ name
    ++ codes ">];\n"

-- a box with a symbol's name
unfoldable pub small_node : List ℕ → List ℕ → Bool → List ℕ
small_node id name changed =
    codes "    " ++ id ++ codes " [" ++ colour_text changed ++ codes "shape=box, label=<" ++ name ++ codes ">];\n"

-- an edge to each element, with its place in the tuple
unfoldable pub place_edges : List ℕ → List ℕ → ℕ → List ℕ → List ℕ → Bool → List ℕ
place_edges letter id n [] xs changed = []
place_edges letter id n (k ∷ ks) [] changed = []
place_edges letter id n (k ∷ ks) (x ∷ xs) changed =
    edge_line id (node_id letter k x) (decimal n) changed ++ place_edges letter id (n + 1) ks xs changed

-- a small node, with an edge to each element of the tuple
unfoldable pub hub_text : List ℕ → List ℕ → List ℕ → List ℕ → List ℕ → Bool → List ℕ
hub_text letter id name ks xs changed = small_node id name changed ++ place_edges letter id 1 ks xs changed

-- a tuple of two or more
abbrev pub pair_text : List ℕ → List ℕ → List ℕ → ℕ → ℕ → List ℕ → List ℕ → Bool → List ℕ
pair_text letter id name k x [] xs changed = []
pair_text letter id name k x (j ∷ js) [] changed = []
pair_text letter id name k x (j ∷ []) (y ∷ ys) changed =
    edge_line (node_id letter k x) (node_id letter j y) name changed
pair_text letter id name k x (j ∷ i ∷ js) (y ∷ ys) changed =
    hub_text letter id name (k ∷ j ∷ i ∷ js) (x ∷ y ∷ ys) changed

-- a tuple of these sorts; nothing of one element alone, which is a mark at its node
abbrev pub tuple_text : List ℕ → List ℕ → List ℕ → List ℕ → List ℕ → Bool → List ℕ
tuple_text letter id name [] xs changed = small_node id name changed
tuple_text letter id name (k ∷ ks) [] changed = []
tuple_text letter id name (k ∷ ks) (x ∷ xs) changed = pair_text letter id name k x ks xs changed

-- the numbers, each behind a line
unfoldable pub digits_text : List ℕ → List ℕ
digits_text [] = []
digits_text (x ∷ xs) = codes "_" ++ decimal x ++ digits_text xs

-- the small node of a tuple of a symbol
abbrev pub symbol_id : Symbol → List ℕ
symbol_id (symbol.Relation r) = codes "r" ++ decimal r.0
symbol_id (symbol.Function f) = codes "f" ++ decimal f.0

-- the small node of a tuple, by the letter of the structure, the symbol and the elements
unfoldable pub hub_id : List ℕ → Symbol → List ℕ → List ℕ
hub_id letter q xs = letter ++ symbol_id q ++ digits_text xs

-- a true tuple of a relation; the arguments of a function with the value; red where it is not so there
abbrev pub cell_text : List ℕ → Names → Tables → Tables → Symbol → List ℕ → List ℕ
cell_text letter names s t (symbol.Relation r) xs =
    if rel_at s r.0 xs
    then tuple_text letter (hub_id letter (symbol.Relation r) xs) (symbol_name names (symbol.Relation r))
    (relation_at s r.0).sorts xs (not (rel_at t r.0 xs)) else []
cell_text letter names s t (symbol.Function f) xs =
    tuple_text letter (hub_id letter (symbol.Function f) xs) (symbol_name names (symbol.Function f))
    ((function_at s f.0).sorts ++ (function_at s f.0).into ∷ []) (xs ++ fun_at s f.0 xs ∷ [])
    (not (fun_at s f.0 xs == fun_at t f.0 xs))

-- of each tuple of each symbol
abbrev pub edges_text : List ℕ → Names → Tables → Tables → List ℕ
edges_text letter names s t = all_cells s (cell_text letter names s t)
