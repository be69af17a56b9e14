-- What is drawn of a tuple, by the symbol that it is a tuple of: the letter of the structure, the names, the symbol,
-- the tuple, and whether it has changed.
use Rattle.std.specs.Prelude.{ℕ, Bool, List}
use Rattle.std.specs.Fmt.{decimal}
use Rattle.rml_command.specs.declared.names.Names.{Names}
use Rattle.fol_sig.specs.declared.symbol.Symbol.{Symbol}
use Rattle.told_states.specs.SymbolText.{symbol_name}
use Rattle.dot_graph.specs.NodeText.{node_id}
use Rattle.dot_graph.specs.EdgeText.{hub_id, edge_line, small_node, place_edges, hub_text, tuple_text}
use Rattle.dot_graph.specs.declared.row.Node.{Node}
use Rattle.dot_graph.specs.declared.row.Node.TheVariants as node
use Rattle.dot_graph.specs.declared.row.Label.{Label}
use Rattle.dot_graph.specs.declared.row.Label.TheVariants as label

-- where an edge begins or ends
abbrev pub node_of : List ℕ → Symbol → List ℕ → Node → List ℕ
node_of letter q xs node.Hub = hub_id letter q xs
node_of letter q xs (node.Element k x) = node_id letter k.0 x

-- what stands at an edge
abbrev pub label_of : Names → Symbol → Label → List ℕ
label_of names q label.Name = symbol_name names q
label_of names q (label.Place n) = decimal n

-- an edge of the tuple
abbrev pub row_edge : List ℕ → Names → Symbol → List ℕ → Bool → Node → Node → Label → List ℕ
row_edge letter names q xs changed from to l =
    edge_line (node_of letter q xs from) (node_of letter q xs to) (label_of names q l) changed

-- its small node
abbrev pub row_node : List ℕ → Names → Symbol → List ℕ → Bool → List ℕ
row_node letter names q xs changed = small_node (hub_id letter q xs) (symbol_name names q) changed

-- an edge from there to each of these elements, with its place
abbrev pub row_places : List ℕ → Symbol → List ℕ → Bool → ℕ → List ℕ → List ℕ → List ℕ
row_places letter q xs changed n ks ys = place_edges letter (hub_id letter q xs) n ks ys changed

-- both
abbrev pub row_hub : List ℕ → Names → Symbol → List ℕ → Bool → List ℕ → List ℕ → List ℕ
row_hub letter names q xs changed ks ys = hub_text letter (hub_id letter q xs) (symbol_name names q) ks ys changed

-- all that is drawn of it, where it has these elements
abbrev pub row_text : List ℕ → Names → Symbol → List ℕ → Bool → List ℕ → List ℕ → List ℕ
row_text letter names q xs changed ks ys = tuple_text letter (hub_id letter q xs) (symbol_name names q) ks ys changed
