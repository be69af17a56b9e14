-- Elements, and symbols at tuples of them.
use Rattle.std.specs.Prelude.{ℕ, List, [], ◌∷◌, ◌++◌, Option, Some, None, codes}
use Rattle.std.specs.Fmt.{decimal}
use Rattle.rml_command.specs.declared.names.Names.{Names}
use Rattle.rml_report.specs.Words.{name_at}
use Rattle.fol_sig.specs.Tables.{Tables}
use Rattle.fol_sig.specs.SymbolTables.{arguments_of}
use Rattle.fol_sig.specs.declared.FunId.{FunId}
use Rattle.fol_sig.specs.declared.symbol.Symbol.{Symbol}
use Rattle.told_states.specs.Labels.{Labels, name_of}
use Rattle.told_states.specs.SymbolText.{symbol_name}

-- node0
unfoldable pub element_text : Names → ℕ → ℕ → List ℕ
element_text names k x = name_at names.sorts k ++ decimal x

-- its name, where it has one
abbrev pub named_text : Names → Option FunId → ℕ → ℕ → List ℕ
named_text names None k x = element_text names k x
named_text names (Some f) k x = name_at names.functions f.0

-- red, or node0
unfoldable pub label_text : Labels → ℕ → ℕ → List ℕ
label_text l k x = named_text l.names (name_of l.labels k x) k x

-- the elements of a tuple of these sorts, the first behind the word and each other behind a comma and a blank
unfoldable pub elements_text : Labels → List ℕ → List ℕ → List ℕ → List ℕ
elements_text l word [] xs = []
elements_text l word (k ∷ ks) [] = []
elements_text l word (k ∷ ks) (x ∷ xs) = word ++ label_text l k x ++ elements_text l (codes ", ") ks xs

-- (node0, node1), and nothing where there are no arguments
abbrev pub arguments_text : Labels → List ℕ → List ℕ → List ℕ
arguments_text l [] xs = []
arguments_text l (k ∷ ks) xs = elements_text l (codes "(") (k ∷ ks) xs ++ codes ")"

-- linked(client0, server0)
unfoldable pub atom_text : Labels → Tables → Symbol → List ℕ → List ℕ
atom_text l s q xs = symbol_name l.names q ++ arguments_text l (arguments_of s q) xs

-- a line of pieces, each of which begins with a comma and a blank; the first without them, and no line for no piece
abbrev pub line_text : List ℕ → List ℕ → List ℕ
line_text word [] = []
line_text word (comma ∷ []) = []
line_text word (comma ∷ blank ∷ listed) = word ++ listed ++ codes "\n"
